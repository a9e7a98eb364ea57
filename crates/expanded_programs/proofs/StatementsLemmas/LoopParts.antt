-- Points, tests, bodies and steps where the text is.
use Rattle.std.proofs.Common.{◌≡◌, ℕ, ◌≤◌, ◌∙◌, sym, refl, ap, subst, ℤ, Bool, true, false, List, [], ◌∷◌, ◌++◌, length, Option, Some, None, le_refl, if◌then◌else◌}
use Rattle.std.proofs.lemmas.List.{append-nil}
use Rattle.hls_base.specs.declared.place.Place.{Place}
use Rattle.hls_base.specs.declared.point.Point.{Point}
use Rattle.hls_base.specs.declared.point.PointKind.TheVariants as point
use Rattle.c_meaning.specs.declared.value.Completion.{Completion}
use Rattle.c_meaning.specs.declared.value.Completion.TheVariants as end
use Rattle.c_meaning.specs.declared.value.Round.{Round}
use Rattle.c_meaning.specs.declared.value.Round.TheVariants as round
use Rattle.c_meaning.specs.Statement.{round_of}
use Rattle.c_value.specs.Operators.{is_true}
use Rattle.pieces.specs.Resolved.Core.{CoreTree, CoreActionTree}
use Rattle.pieces.specs.declared.piece.CallId.{CallId}
use Rattle.pieces.specs.Trees as tree
use Rattle.pieces.specs.Trees.{PureTree, PieceTree, piece_row}
use Rattle.hls_base.specs.Steps as Steps
use Rattle.hls_base.specs.Steps.{Ran, goes, pass, reached}
use Rattle.hls_base.specs.Valued.{is, valued}
use Rattle.hls_base.specs.Same.{Same}
use Rattle.c_meaning.specs.CoreRuns.Cells.{Cells, Here}
use Rattle.c_meaning.specs.CoreRuns.Statements as ks
use Rattle.c_meaning.specs.PieceRuns.Values.{Store, value}
use Rattle.c_meaning.specs.PieceRuns.Pieces.{Frame, Way, on, Turn, again, over, turn_of, turned, tested, test_first, test_last, if_again, piece_run, behind}
use Rattle.expanded_programs.specs.Statements.Ending.{Ends, Turns}
use Rattle.expand_runs.proofs.Sames.{goes_same, then_same, then_then, then_each, same_as, pass_same}
use Rattle.expand_runs.proofs.Rows.{run_of, going_on}
use Rattle.expanded_programs.proofs.StatementsLemmas.Controls.{turned_same, again_same}

-- a mark before other pieces
pub mark_first : (f : Frame) (p : Point) (ys : List PieceTree) (t : Store) (n : ℕ) → run_of f (tree.mark p ∷ ys) t n ≡ Steps.then_ (pass p t n) (λ u t1 n1. run_of f ys t1 n1)
mark_first f p ys t n = then_then (pass p t n) (λ u t1 n1. goes on t1 n1) (λ w t1 n1. going_on f ys w t1 n1)

-- what is reached by a point
pub mark_reached : {A : Type 0} (f : Frame) (k : ℕ) (J : Cells → Store → Type 0) (Q : A → Cells → Way → Store → Type 0) (p : Point) (part : Cells → ℕ → Ran Cells A) (ys : List PieceTree) (s : Cells) (t : Store) (n : ℕ) → n ≤ k → J s t
    → ((s1 : Cells) (t1 : Store) (n1 : ℕ) → n1 ≤ k → J s1 t1 → Same false k Q (part s1 n1) (run_of f ys t1 n1)) → Same false k Q (reached p part s n) (run_of f (tree.mark p ∷ ys) t n)
mark_reached f k J Q p part ys s t n le j next =
    same_as k Q (reached p part s n) (Steps.then_ (pass p t n) (λ u t1 n1. run_of f ys t1 n1)) (run_of f (tree.mark p ∷ ys) t n) (mark_first f p ys t n)
    (then_same k (λ u s1 v t1. J s1 t1) Q (pass p s n) (pass p t n) (λ u s1 n1. part s1 n1) (λ u t1 n1. run_of f ys t1 n1) (pass_same k (λ u s1 v t1. J s1 t1) p s t n le j) (λ u s1 v t1 n1 le1 j1. next s1 t1 n1 le1 j1))

pub if_same : {S T A B : Type 0} (k : ℕ) (R : A → S → B → T → Type 0) (b : Bool) (q q' : Ran S A) (r r' : Ran T B) → (b ≡ true → Same false k R q r) → (b ≡ false → Same false k R q' r') → Same false k R (if b then q else q') (if b then r else r')
if_same k R true q q' r r' h g = h refl
if_same k R false q q' r r' h g = g refl

module _ (f : Frame) (k : ℕ) (J : Cells → Store → Type 0) (Q : Option ℤ → Cells → Store → Type 0) (call : CallId) where
  abbrev Part : Type 0
  Part = Cells → ℕ → Ran Cells Completion

  -- the same answer of a test
  abbrev pub Tested : Bool → Cells → Bool → Store → Type 0
  Tested b s b' t = (b ≡ b') × J s t

  -- a value behind which control goes on
  abbrev pub Gives : PureTree → ℤ → Cells → Way → Store → Type 0
  Gives x v s w t = (w ≡ on) × J s t × (value f.arrays x t ≡ is v)

  pub tested_same : (p : Point) (x : PureTree) (xs : List PieceTree) (e : Cells → ℕ → Ran Cells ℤ) → ((s : Cells) (t : Store) (n : ℕ) → n ≤ k → J s t → Same false k (Gives x) (e s n) (run_of f xs t n))
      → (s : Cells) (t : Store) (n : ℕ) → n ≤ k → J s t
      → Same false k Tested (reached p (λ s1 n1. Steps.then_ (e s1 n1) (λ v s2 n2. goes (is_true v) s2 n2)) s n) (tested f (λ t1 n1. run_of f (tree.mark p ∷ xs) t1 n1) x t n)
  tested_same p x xs e h s t n le j =
      subst (λ q. Same false k Tested q (tested f (λ t1 n1. run_of f (tree.mark p ∷ xs) t1 n1) x t n)) (then_then (pass p s n) (λ u s1 n1. e s1 n1) (λ v s2 n2. goes (is_true v) s2 n2))
      (then_same k (Gives x) Tested (reached p e s n) (run_of f (tree.mark p ∷ xs) t n) (λ v s2 n2. goes (is_true v) s2 n2) (λ w t1 n1. valued (value f.arrays x t1) (λ y t2 n2. goes (is_true y) t2 n2) t1 n1)
      (mark_reached f k J (Gives x) p e xs s t n le j h)
      (λ v s1 w t1 n1 le1 a. subst (λ z. Same false k Tested (goes (is_true v) s1 n1) (valued z (λ y t2 n2. goes (is_true y) t2 n2) t1 n1)) (sym a.2) (goes_same k Tested (is_true v) s1 (is_true v) t1 n1 le1 (refl, a.1))))

  -- a loop without a test
  pub untested_same : (p : Point) (x : PureTree) → ((t : Store) → value f.arrays x t ≡ is (ℤ.pos 1)) → (s : Cells) (t : Store) (n : ℕ) → n ≤ k → J s t
      → Same false k Tested (reached p (λ s1 n1. goes true s1 n1) s n) (tested f (λ t1 n1. run_of f (tree.mark p ∷ []) t1 n1) x t n)
  untested_same p x one_ s t n le j =
      subst (λ q. Same false k Tested q (tested f (λ t1 n1. run_of f (tree.mark p ∷ []) t1 n1) x t n)) (then_then (pass p s n) (λ u s1 n1. goes tt s1 n1) (λ v s2 n2. goes true s2 n2))
      (then_same k (λ (u : Unit {0}) s1 w t1. (w ≡ on) × J s1 t1) Tested (reached p (λ s1 n1. goes tt s1 n1) s n) (run_of f (tree.mark p ∷ []) t n) (λ v s2 n2. goes true s2 n2) (λ w t1 n1. valued (value f.arrays x t1) (λ y t2 n2. goes (is_true y) t2 n2) t1 n1)
      (mark_reached f k J (λ (u : Unit {0}) s1 w t1. (w ≡ on) × J s1 t1) p (λ s1 n1. goes tt s1 n1) [] s t n le j (λ s1 t1 n1 le1 j1. goes_same k (λ (u : Unit {0}) s1 w t1. (w ≡ on) × J s1 t1) tt s1 on t1 n1 le1 (refl, j1)))
      (λ v s1 w t1 n1 le1 a. subst (λ z. Same false k Tested (goes true s1 n1) (valued z (λ y t2 n2. goes (is_true y) t2 n2) t1 n1)) (sym (one_ t1)) (goes_same k Tested true s1 true t1 n1 le1 (refl, a.1))))

  -- The body of a loop, from which `break` and `continue` go where the loop is.
  pub body_same : (lv : Bool) (p : Point) (body : Part) (ys : List PieceTree) → ((s : Cells) (t : Store) (n : ℕ) → n ≤ k → J s t → Same false k (Ends J J J Q call false lv) (body s n) (run_of f ys t n))
      → (s : Cells) (t : Store) (n : ℕ) → n ≤ k → J s t → Same false k (Turns J Q call lv) (Steps.then_ (reached p body s n) (λ r s1 n1. goes (round_of r) s1 n1)) (turned (λ t1 n1. run_of f (tree.mark p ∷ ys) t1 n1) t n)
  body_same lv p body ys h s t n le j =
      then_same k (Ends J J J Q call false lv) (Turns J Q call lv) (reached p body s n) (run_of f (tree.mark p ∷ ys) t n) (λ r s1 n1. goes (round_of r) s1 n1) (λ w t1 n1. goes (turn_of w) t1 n1)
      (mark_reached f k J (Ends J J J Q call false lv) p body ys s t n le j h)
      (λ r s1 w t1 n1 le1 a. turned_same f k J J J Q call lv r w s1 t1 n1 le1 a)

  -- the step, or none
  pub no_step_same : (lv : Bool) (s : Cells) (t : Store) (n : ℕ) → n ≤ k → J s t → Same false k (Turns J Q call lv) (goes round.Again s n) (turned (λ t1 n1. run_of f [] t1 n1) t n)
  no_step_same lv s t n le j = goes_same k (Turns J Q call lv) round.Again s again t n le (refl, j)

  pub step_same : (lv : Bool) (p : Point) (part : Cells → ℕ → Ran Cells (Unit {0})) (ys : List PieceTree) → ((s : Cells) (t : Store) (n : ℕ) → n ≤ k → J s t → Same false k (λ u s1 w t1. (w ≡ on) × J s1 t1) (part s n) (run_of f ys t n))
      → (s : Cells) (t : Store) (n : ℕ) → n ≤ k → J s t → Same false k (Turns J Q call lv) (Steps.then_ (reached p part s n) (λ u s1 n1. goes round.Again s1 n1)) (turned (λ t1 n1. run_of f (tree.mark p ∷ ys) t1 n1) t n)
  step_same lv p part ys h s t n le j =
      then_same k (λ u s1 w t1. (w ≡ on) × J s1 t1) (Turns J Q call lv) (reached p part s n) (run_of f (tree.mark p ∷ ys) t n) (λ u s1 n1. goes round.Again s1 n1) (λ w t1 n1. goes (turn_of w) t1 n1)
      (mark_reached f k J (λ u s1 w t1. (w ≡ on) × J s1 t1) p part ys s t n le j h)
      (λ u s1 w t1 n1 le1 a. goes_same k (Turns J Q call lv) round.Again s1 (turn_of w) t1 n1 le1 (ap turn_of a.0, a.1))

  -- a round whose test comes first
  pub first_same : (lv : Bool) (test : Cells → ℕ → Ran Cells Bool) (body : Cells → ℕ → Ran Cells Round) (step : Cells → ℕ → Ran Cells Round) (x : PureTree) (before main last : Store → ℕ → Ran Store Way)
      → ((s : Cells) (t : Store) (n : ℕ) → n ≤ k → J s t → Same false k Tested (test s n) (tested f before x t n))
      → ((s : Cells) (t : Store) (n : ℕ) → n ≤ k → J s t → Same false k (Turns J Q call lv) (body s n) (turned main t n))
      → ((s : Cells) (t : Store) (n : ℕ) → n ≤ k → J s t → Same false k (Turns J Q call lv) (step s n) (turned last t n))
      → (s : Cells) (t : Store) (n : ℕ) → n ≤ k → J s t
      → Same false k (Turns J Q call lv) (Steps.then_ (test s n) (λ holds s1 n1. if holds then Steps.then_ (body s1 n1) (λ r s2 n2. ks.if_again r step s2 n2) else goes round.Over s1 n1)) (test_first f before x main last t n)
  first_same lv test body step x before main last ht hb hs s t n le j =
      then_same k Tested (Turns J Q call lv) (test s n) (tested f before x t n) (λ holds s1 n1. if holds then Steps.then_ (body s1 n1) (λ r s2 n2. ks.if_again r step s2 n2) else goes round.Over s1 n1)
      (λ holds t1 n1. if holds then Steps.then_ (turned main t1 n1) (λ w t2 n2. if_again w (turned last) t2 n2) else goes over t1 n1) (ht s t n le j)
      (λ b s1 b' t1 n1 le1 a.
      subst (λ z. Same false k (Turns J Q call lv) (if b then Steps.then_ (body s1 n1) (λ r s2 n2. ks.if_again r step s2 n2) else goes round.Over s1 n1) (if z then Steps.then_ (turned main t1 n1) (λ w t2 n2. if_again w (turned last) t2 n2) else goes over t1 n1)) a.0
      (if_same k (Turns J Q call lv) b (Steps.then_ (body s1 n1) (λ r s2 n2. ks.if_again r step s2 n2)) (goes round.Over s1 n1) (Steps.then_ (turned main t1 n1) (λ w t2 n2. if_again w (turned last) t2 n2)) (goes over t1 n1)
      (λ e. then_same k (Turns J Q call lv) (Turns J Q call lv) (body s1 n1) (turned main t1 n1) (λ r s2 n2. ks.if_again r step s2 n2) (λ w t2 n2. if_again w (turned last) t2 n2) (hb s1 t1 n1 le1 a.1)
      (λ r s2 w t2 n2 le2 b2. again_same f k J J J Q call lv r w step (turned last) s2 t2 n2 le2 b2 (λ j2. hs s2 t2 n2 le2 j2)))
      (λ e. goes_same k (Turns J Q call lv) round.Over s1 over t1 n1 le1 (refl, a.1))))

  -- a round whose test comes last
  pub last_same : (lv : Bool) (test : Cells → ℕ → Ran Cells Bool) (body : Cells → ℕ → Ran Cells Round) (x : PureTree) (before main : Store → ℕ → Ran Store Way)
      → ((s : Cells) (t : Store) (n : ℕ) → n ≤ k → J s t → Same false k Tested (test s n) (tested f before x t n))
      → ((s : Cells) (t : Store) (n : ℕ) → n ≤ k → J s t → Same false k (Turns J Q call lv) (body s n) (turned main t n))
      → (s : Cells) (t : Store) (n : ℕ) → n ≤ k → J s t
      → Same false k (Turns J Q call lv) (Steps.then_ (body s n) (λ r s1 n1. ks.if_again r (λ s2 n2. Steps.then_ (test s2 n2) (λ holds s3 n3. goes (if holds then round.Again else round.Over) s3 n3)) s1 n1)) (test_last f before x main t n)
  last_same lv test body x before main ht hb s t n le j =
      then_same k (Turns J Q call lv) (Turns J Q call lv) (body s n) (turned main t n) (λ r s1 n1. ks.if_again r (λ s2 n2. Steps.then_ (test s2 n2) (λ holds s3 n3. goes (if holds then round.Again else round.Over) s3 n3)) s1 n1)
      (λ w t1 n1. if_again w (λ t2 n2. Steps.then_ (tested f before x t2 n2) (λ holds t3 n3. goes (if holds then again else over) t3 n3)) t1 n1) (hb s t n le j)
      (λ r s1 w t1 n1 le1 a.
      again_same f k J J J Q call lv r w (λ s2 n2. Steps.then_ (test s2 n2) (λ holds s3 n3. goes (if holds then round.Again else round.Over) s3 n3)) (λ t2 n2. Steps.then_ (tested f before x t2 n2) (λ holds t3 n3. goes (if holds then again else over) t3 n3)) s1 t1 n1 le1 a
      (λ j1.
      then_same k Tested (Turns J Q call lv) (test s1 n1) (tested f before x t1 n1) (λ holds s3 n3. goes (if holds then round.Again else round.Over) s3 n3) (λ holds t3 n3. goes (if holds then again else over) t3 n3) (ht s1 t1 n1 le1 j1)
      (λ b s3 b' t3 n3 le3 d. subst (λ z. Same false k (Turns J Q call lv) (goes (if b then round.Again else round.Over) s3 n3) (goes (if z then again else over) t3 n3)) d.0 (turn_at b s3 t3 n3 le3 d.1))))
    where
      turn_at : (b : Bool) (s3 : Cells) (t3 : Store) (n3 : ℕ) → n3 ≤ k → J s3 t3 → Same false k (Turns J Q call lv) (goes (if b then round.Again else round.Over) s3 n3) (goes (if b then again else over) t3 n3)
      turn_at true s3 t3 n3 le3 j3 = goes_same k (Turns J Q call lv) round.Again s3 again t3 n3 le3 (refl, j3)
      turn_at false s3 t3 n3 le3 j3 = goes_same k (Turns J Q call lv) round.Over s3 over t3 n3 le3 (refl, j3)
