-- Which pieces begin an arm, and the arms while they grow.
use Rattle.std.proofs.lemmas.List.{drop_more, get_or_past, get_or_push, get_or_append_left}
use Rattle.std.proofs.lemmas.Bool.{lt-ltb, le-ltb}
use Rattle.std.proofs.lemmas.Bool.Decides.{leb_tells}
use Rattle.std.proofs.Common.{◌≡◌, arith, inl, inr, ◌≤◌, ◌∙◌, ℕ, suc, ◌+◌, ◌<◌, Bool, true, false, ◌&&◌, ◌||◌, refl, ap, sym, List, [], ◌∷◌, ◌++◌, length, get_or, drop, Option, Some, None, Vec, Global, vec_len}
use Rattle.std.specs.Prelude.{◌==◌, nat_lt, if◌then◌else◌, unwrap_or}
use Rattle.std.specs.Borrow.{Bor}
use Rattle.hls_base.specs.declared.point.Point.{Point}
use Rattle.pieces.specs.declared.piece.Label.{Label}
use Rattle.pieces.specs.declared.piece.Piece.{Piece}
use Rattle.pieces.specs.Trees as tree
use Rattle.pieces.specs.View.{pieces_of}
use Rattle.pieces.specs.Trees.{PieceTree, PieceTrees}
use Rattle.ir_core.specs.Trees.{SequenceTree, ArmTrees, more_arms}
use Rattle.passes.specs.Lowering.Shapes.{or_at, point_of}
use Rattle.passes.specs.Lowering.Blocks.{Scope, begun}
use Rattle.passes.specs.Lowering.{Rest, last, is_named, arms_before, piece_count, with_target, arm_of, targets, lowered_piece, before_arm}
use Rattle.passes.specs.Lowering as spec
use Rattle.ir_lower.specs.declared.arms.Arms.{Arms}
use Rattle.ir_lower.specs.Arms.{arms_until}
use Rattle.ir_lower.specs.Lines.{ended_arms}
use Rattle.ir_lower.specs.Points.{pointed}

pub or_end : (x : Option (Bor Point)) (end : Bor Point) (o : Option Point) → pointed x ≡ o → (unwrap_or x end).now ≡ or_at end.now o
or_end None end o e = ap (or_at end.now) e
or_end (Some x) end o e = ap (or_at end.now) e

pub pieces_counted : (xs : List Piece) → piece_count (pieces_of xs) ≡ length xs
pieces_counted [] = refl
pieces_counted (x ∷ xs) = ap suc (pieces_counted xs)

pub body_counted : (body : Vec Piece Global) → vec_len body ≡ piece_count (pieces_of body.items)
body_counted body = let ok = body.ok in let same : vec_len body ≡ length body.items = omega (arith, ok) in same ∙ sym (pieces_counted body.items)

-- the mark of one label, and what the others name
pub mark_step : (old new : List Bool) (t i n : ℕ) (more : Bool) → length old ≡ n → get_or new i false ≡ (get_or old i false || (nat_lt i (length old) && t == i))
    → (get_or new i false || (nat_lt i n && more)) ≡ (get_or old i false || (nat_lt i n && (t == i || more)))
mark_step old new t i n more len e = ap (λ b. b || (nat_lt i n && more)) (e ∙ ap (λ k. get_or old i false || (nat_lt i k && t == i)) len) ∙ by (get_or old i false) (nat_lt i n) (t == i) where
  by : (a b c : Bool) → ((a || (b && c)) || (b && more)) ≡ (a || (b && (c || more)))
  by true b c = refl
  by false true c = refl
  by false false c = refl

pub marks_step : (W : ℕ → Bool) (labels : List Label) (k : ℕ) (d : Label) (n : ℕ) (old new : List Bool) → k < length labels → length old ≡ n
    → ((i : ℕ) → get_or new i false ≡ (get_or old i false || (nat_lt i (length old) && (get_or labels k d).target == i)))
    → ((i : ℕ) → (get_or old i false || (nat_lt i n && is_named (drop k labels) i)) ≡ W i) → (i : ℕ) → (get_or new i false || (nat_lt i n && is_named (drop (k + 1) labels) i)) ≡ W i
marks_step W labels k d n old new there len e h i =
    mark_step old new (get_or labels k d).target i n (is_named (drop (k + 1) labels) i) len (e i) ∙ ap (λ l. get_or old i false || (nat_lt i n && is_named l i)) (sym (drop_more labels k d there)) ∙ h i

pub targets_step : (W : List ℕ) (labels : List Label) (k : ℕ) (d : Label) (n arm : ℕ) (old new : List ℕ) → k < length labels → ((rest : List ℕ) → new ++ rest ≡ old ++ with_target (get_or labels k d).value arm rest)
    → arm ≡ arm_of labels n (get_or labels k d) → old ++ targets labels n (drop k labels) ≡ W → new ++ targets labels n (drop (k + 1) labels) ≡ W
targets_step W labels k d n arm old new there e same h =
    let rest = targets labels n (drop (k + 1) labels) in
    e rest ∙ ap (λ a. old ++ with_target (get_or labels k d).value a rest) same ∙ ap (λ l. old ++ targets labels n l) (sym (drop_more labels k d there)) ∙ h

pub none_left : (a b : Bool) → (a || (b && false)) ≡ a
none_left true b = refl
none_left false true = refl
none_left false false = refl

next_is : (n : ℕ) → suc n ≡ n + 1
next_is n = omega arith

pub counts_next : (labels : List Label) (i n m : ℕ) (b : Bool) → b ≡ is_named labels i → n ≡ arms_before labels i → m ≡ (if b then suc n else n) → m ≡ arms_before labels (i + 1)
counts_next labels i n m b named so_far e =
    e ∙ ap (λ x. if b then suc x else x) so_far ∙ ap (λ x. if x then suc (arms_before labels i) else arms_before labels i) named ∙ ap (arms_before labels) (next_is i)

pub counts_more : (labels : List Label) (counts new : List ℕ) (i n : ℕ) → length counts ≡ i → n ≡ arms_before labels i → new ≡ counts ++ n ∷ [] → ((k : ℕ) → k < i → get_or counts k 0 ≡ arms_before labels k)
    → (k : ℕ) → k < i + 1 → get_or new k 0 ≡ arms_before labels k
counts_more labels counts new i n len now e before k less =
    let here : get_or (counts ++ n ∷ []) k 0 ≡ arms_before labels k = elim (leb_tells (suc k) i) [
      | inl h ↦ within h.1
      | inr h ↦ at_end h.1
    ] in
    ap (λ l. get_or l k 0) e ∙ here where
      within : suc k ≤ i → get_or (counts ++ n ∷ []) k 0 ≡ arms_before labels k
      within l = get_or_append_left counts (n ∷ []) 0 k (omega (arith, len, l)) ∙ before k (omega (arith, l))

      at_end : i < suc k → get_or (counts ++ n ∷ []) k 0 ≡ arms_before labels k
      at_end l = let same : i ≡ k = omega (arith, l, less) in get_or_push counts n 0 k (len ∙ same) ∙ now ∙ ap (arms_before labels) same

pub counts_all : (labels : List Label) (counts : List ℕ) (n : ℕ) → length counts ≡ n → ((k : ℕ) → k < n → get_or counts k 0 ≡ arms_before labels k) → (i : ℕ) → get_or counts i 0 ≡ arms_until labels n i
counts_all labels counts n len h i = elim (leb_tells (suc i) n) [
  | inl t ↦ h i t.1 ∙ sym (ap (λ b. if b then arms_before labels i else 0) (lt-ltb i n t.1))
  | inr t ↦ past t.1
] where
  past : n < suc i → get_or counts i 0 ≡ arms_until labels n i
  past l = let over : n ≤ i = omega (arith, l) in get_or_past counts i 0 (omega (arith, len, over)) ∙ sym (ap (λ b. if b then arms_before labels i else 0) (le-ltb i n over))

-- ---- the arms while they grow

pub arm_step : (scope : Scope) (labels : List Label) (i : ℕ) (piece : PieceTree) (pieces : PieceTrees) (end : Point) (arms now : Arms) (begins : Bool) (whole : ArmTrees) → begins ≡ is_named labels i
    → ((rest : Rest) (more : ArmTrees) → ended_arms now rest more
    ≡ (if begins then ended_arms arms last (more_arms (lowered_piece scope piece rest (begun (or_at end (point_of piece)))) more) else ended_arms arms (lowered_piece scope piece rest) more))
    → ended_arms arms (before_arm scope labels i (tree.then_ piece pieces)) (spec.arms scope labels i (tree.then_ piece pieces) end) ≡ whole
    → ended_arms now (before_arm scope labels (i + 1) pieces) (spec.arms scope labels (i + 1) pieces end) ≡ whole
arm_step scope labels i piece pieces end arms now begins whole named step before =
    let rest : Rest = before_arm scope labels (i + 1) pieces in
    let more = spec.arms scope labels (i + 1) pieces end in
    let first = lowered_piece scope piece rest (begun (or_at end (point_of piece))) in
    step rest more ∙ ap (λ b. if b then ended_arms arms last (more_arms first more) else ended_arms arms (lowered_piece scope piece rest) more) named ∙ by (is_named labels i) first (lowered_piece scope piece rest) more ∙ before where
      by : (b : Bool) (first : SequenceTree) (rest : Rest) (more : ArmTrees)
          → (if b then ended_arms arms last (more_arms first more) else ended_arms arms rest more) ≡ ended_arms arms (λ x. if b then last x else rest x) (if b then more_arms first more else more)
      by true first rest more = refl
      by false first rest more = refl
