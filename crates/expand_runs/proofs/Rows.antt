-- Pieces behind other pieces.
use Rattle.std.proofs.Common.{◌≡◌, ℕ, ◌≤◌, ◌∙◌, sym, refl, Bool, true, false, List, [], ◌∷◌, ◌++◌, if◌then◌else◌, ap, append-nil}
use Rattle.std.specs.Prelude.{◌==◌}
use Rattle.hls_base.specs.declared.point.Point.{Point}
use Rattle.pieces.specs.declared.piece.CallId.{CallId}
use Rattle.pieces.specs.Trees as tree
use Rattle.pieces.specs.Trees.{PieceTree, piece_row}
use Rattle.hls_base.specs.Steps.{Ran, then_, Outcome, went, undefined, waiting, ran, goes}
use Rattle.hls_base.specs.Same.{Same}
use Rattle.c_meaning.specs.PieceRuns.Values.{Store}
use Rattle.c_meaning.specs.PieceRuns.Pieces.{Frame, Way, on, broke, continued, left, behind, behind_piece, piece_run, pieces_run, landed}
use Rattle.expand_runs.proofs.Sames.{then_same, then_then, then_each, same_as}

-- these pieces from their first one on
abbrev pub run_of : Frame → List PieceTree → Store → ℕ → Ran Store Way
run_of f xs t n = pieces_run f (piece_row xs) t n

-- from the end of this call on
abbrev pub landed_in : Frame → List PieceTree → CallId → Store → ℕ → Ran Store Way
landed_in f xs call t n = landed f (piece_row xs) call t n

-- these pieces behind those that end so
abbrev pub going_on : Frame → List PieceTree → Way → Store → ℕ → Ran Store Way
going_on f ys w t n = behind_piece (λ t2 n2. run_of f ys t2 n2) (λ call t2 n2. landed_in f ys call t2 n2) w t n

-- what a way goes on with, where the rest does
way_behind : (f : Frame) (xs ys : List PieceTree) → ((t : Store) (n : ℕ) → run_of f (xs ++ ys) t n ≡ then_ (run_of f xs t n) (λ w t1 n1. going_on f ys w t1 n1))
    → ((call : CallId) (t : Store) (n : ℕ) → landed_in f (xs ++ ys) call t n ≡ then_ (landed_in f xs call t n) (λ w t1 n1. going_on f ys w t1 n1))
    → (w : Way) (t : Store) (n : ℕ) → going_on f (xs ++ ys) w t n ≡ then_ (going_on f xs w t n) (λ w1 t1 n1. going_on f ys w1 t1 n1)
way_behind f xs ys rows lands on t n = rows t n
way_behind f xs ys rows lands broke t n = refl
way_behind f xs ys rows lands continued t n = refl
way_behind f xs ys rows lands (left call) t n = lands call t n

landed_if : (f : Frame) (xs ys : List PieceTree) → ((t : Store) (n : ℕ) → run_of f (xs ++ ys) t n ≡ then_ (run_of f xs t n) (λ w t1 n1. going_on f ys w t1 n1))
    → (b : Bool) (call : CallId) (end : Point) (t : Store) (n : ℕ) → landed_in f (xs ++ ys) call t n ≡ then_ (landed_in f xs call t n) (λ w t1 n1. going_on f ys w t1 n1)
    → (if b then then_ (behind end t n) (λ w t1 n1. run_of f (xs ++ ys) t1 n1) else landed_in f (xs ++ ys) call t n)
    ≡ then_ (if b then then_ (behind end t n) (λ w t1 n1. run_of f xs t1 n1) else landed_in f xs call t n) (λ w1 t1 n1. going_on f ys w1 t1 n1)
landed_if f xs ys rows true call end t n h =
    then_each (behind end t n) (λ w t1 n1. run_of f (xs ++ ys) t1 n1) (λ w t1 n1. then_ (run_of f xs t1 n1) (λ w2 t2 n2. going_on f ys w2 t2 n2)) (λ w t1 n1. rows t1 n1)
    ∙ sym (then_then (behind end t n) (λ w t1 n1. run_of f xs t1 n1) (λ w t1 n1. going_on f ys w t1 n1))
landed_if f xs ys rows false call end t n h = h

mutual
  pub row_behind : (f : Frame) (xs ys : List PieceTree) (t : Store) (n : ℕ) → run_of f (xs ++ ys) t n ≡ then_ (run_of f xs t n) (λ w t1 n1. going_on f ys w t1 n1)
  row_behind f [] ys t n = refl
  row_behind f (x ∷ xs) ys t n =
      then_each (piece_run f x t n) (λ w t1 n1. going_on f (xs ++ ys) w t1 n1) (λ w t1 n1. then_ (going_on f xs w t1 n1) (λ w2 t2 n2. going_on f ys w2 t2 n2))
      (λ w t1 n1. way_behind f xs ys (λ t2 n2. row_behind f xs ys t2 n2) (λ call t2 n2. landed_behind f xs ys call t2 n2) w t1 n1)
      ∙ sym (then_then (piece_run f x t n) (λ w t1 n1. going_on f xs w t1 n1) (λ w t1 n1. going_on f ys w t1 n1))

  pub landed_behind : (f : Frame) (xs ys : List PieceTree) (call : CallId) (t : Store) (n : ℕ) → landed_in f (xs ++ ys) call t n ≡ then_ (landed_in f xs call t n) (λ w1 t1 n1. going_on f ys w1 t1 n1)
  landed_behind f [] ys call t n = refl
  landed_behind f (tree.land other end ∷ xs) ys call t n = landed_if f xs ys (λ t1 n1. row_behind f xs ys t1 n1) (call.0 == other.0) call end t n (landed_behind f xs ys call t n)
  landed_behind f (tree.set name value ∷ xs) ys call t n = landed_behind f xs ys call t n
  landed_behind f (tree.put array subscripts value at ∷ xs) ys call t n = landed_behind f xs ys call t n
  landed_behind f (tree.fork test first second end ∷ xs) ys call t n = landed_behind f xs ys call t n
  landed_behind f (tree.repeat_ id post before test body step end ∷ xs) ys call t n = landed_behind f xs ys call t n
  landed_behind f (tree.pick test labels body end ∷ xs) ys call t n = landed_behind f xs ys call t n
  landed_behind f (tree.break_ ∷ xs) ys call t n = landed_behind f xs ys call t n
  landed_behind f (tree.next_ ∷ xs) ys call t n = landed_behind f xs ys call t n
  landed_behind f (tree.leave other ∷ xs) ys call t n = landed_behind f xs ys call t n
  landed_behind f (tree.mark point ∷ xs) ys call t n = landed_behind f xs ys call t n

-- Pieces behind others do what the second part of a run does behind the first.
pub rows_same : {S A C : Type 0} (f : Frame) (k : ℕ) (R : A → S → Way → Store → Type 0) (Q : C → S → Way → Store → Type 0) (xs ys : List PieceTree) (q : Ran S A) (g : A → S → ℕ → Ran S C) (t : Store) (n : ℕ)
    → Same false k R q (run_of f xs t n) → ((v : A) (s : S) (w : Way) (t1 : Store) (n1 : ℕ) → n1 ≤ k → R v s w t1 → Same false k Q (g v s n1) (going_on f ys w t1 n1))
    → Same false k Q (then_ q g) (run_of f (xs ++ ys) t n)
rows_same f k R Q xs ys q g t n h next =
    same_as k Q (then_ q g) (then_ (run_of f xs t n) (λ w t1 n1. going_on f ys w t1 n1)) (run_of f (xs ++ ys) t n) (row_behind f xs ys t n)
    (then_same k R Q q (run_of f xs t n) g (λ w t1 n1. going_on f ys w t1 n1) h next)

-- ---- single pieces

nothing_behind_at : {T : Type 0} (trace : List Point) (x : Outcome T Way) (g : Way → T → ℕ → Ran T Way) → ((w : Way) (t : T) (n : ℕ) → g w t n ≡ goes w t n) → then_ (ran trace x) g ≡ ran trace x
nothing_behind_at {T} trace (went w t n) g h = ap (λ (r : Ran T Way). ran (trace ++ r.trace) r.outcome) (h w t n) ∙ ap (λ l. ran l (went w t n)) (append-nil trace)
nothing_behind_at trace (undefined rule at) g h = ap (λ l. ran l (undefined rule at)) (append-nil trace)
nothing_behind_at trace waiting g h = ap (λ l. ran l waiting) (append-nil trace)

nothing_on : (f : Frame) (w : Way) (t : Store) (n : ℕ) → going_on f [] w t n ≡ goes w t n
nothing_on f on t n = refl
nothing_on f broke t n = refl
nothing_on f continued t n = refl
nothing_on f (left call) t n = refl

-- a piece that stands alone
pub one_piece : (f : Frame) (p : PieceTree) (t : Store) (n : ℕ) → run_of f (p ∷ []) t n ≡ piece_run f p t n
one_piece f p t n = nothing_behind_at (piece_run f p t n).trace (piece_run f p t n).outcome (λ w t1 n1. going_on f [] w t1 n1) (λ w t1 n1. nothing_on f w t1 n1)
