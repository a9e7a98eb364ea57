-- The table of a tree has its sizes.
use Rattle.std.proofs.Common.{◌<◌, zero, drop, take, ◌≡◌, ◌∙◌, ◌+◌, ℕ, suc, refl, ap, sym, subst, arith, List, [], ◌∷◌, ◌++◌, length, length-append, append_assoc, append-nil, get_or, map}
use Rattle.std.specs.Prelude.{slice_set}
use Rattle.std.proofs.Math.Seq.{get_or-append_seam, set-append_seam}
use Rattle.ir_core.specs.declared.tree.Part.{Part}
use Rattle.ir_core.specs.declared.tree.Sequence.{Sequence, out-Sequence}
use Rattle.ir_core.specs.declared.tree.Shape.TheFolds.{fold_out-Sequence}
use Rattle.ir_core.specs.Trees.{SequenceTree, sequence, PartTrees, no_part, more_parts, ShapeTree, fork, loop, switch, land, overlapped, SideTree, no_side, side, ArmTrees, no_arm, more_arms, PartTree, shape_step, part_step, sequence_step, sequence_of, part_of, shape_of, part_row, arm_row}
use Rattle.ir_layout.specs.Sizes.{sequence_size, parts_size, shape_size, side_size, arms_size}
use Rattle.ir_layout.specs.Nodes.{NodeTree}
use Rattle.ir_layout.specs.Layout.{behind_shape, body_start}
use Rattle.ir_layout.proofs.Parts.{row_more}
use Rattle.ir_layout.specs.Listing.{listing, parts_listing, shape_listing, side_listing, arms_listing, ends_of, IsSized, ArePartsSized, IsShapeSized, IsSideSized, AreArmsSized}

-- ---- a table has a number for each node

mutual
  pub length-listing : (s : SequenceTree) → length (listing s) ≡ sequence_size s
  length-listing (sequence first rest) = ap suc (length-parts_listing rest)

  pub length-parts_listing : (parts : PartTrees) → length (parts_listing parts) ≡ parts_size parts
  length-parts_listing no_part = refl
  length-parts_listing (more_parts shape after rest) =
      omega (arith, length-append (shape_listing shape) (0 ∷ parts_listing rest), length-shape_listing shape, length-parts_listing rest)

  pub length-shape_listing : (shape : ShapeTree) → length (shape_listing shape) ≡ shape_size shape
  length-shape_listing (fork yes_ no_ convertible) = omega (arith, length-append (side_listing yes_) (side_listing no_), length-side_listing yes_, length-side_listing no_)
  length-shape_listing (loop post test body step eligible) =
      omega (
        arith,
        length-append (listing test) (listing body ++ side_listing step),
        length-append (listing body) (side_listing step),
        length-listing test,
        length-listing body,
        length-side_listing step,
      )
  length-shape_listing (switch dead targets other arms) = omega (arith, length-append (parts_listing dead) (arms_listing arms), length-parts_listing dead, length-arms_listing arms)
  length-shape_listing (land number) = refl
  length-shape_listing (overlapped point body) = refl

  pub length-side_listing : (s : SideTree) → length (side_listing s) ≡ side_size s
  length-side_listing no_side = refl
  length-side_listing (side blocks) = length-listing blocks

  pub length-arms_listing : (arms : ArmTrees) → length (arms_listing arms) ≡ arms_size arms
  length-arms_listing no_arm = refl
  length-arms_listing (more_arms first rest) = omega (arith, length-append (listing first) (arms_listing rest), length-listing first, length-arms_listing rest)

-- ---- a part of a table has the sizes of the part of the tree

-- a table whose next part is this, behind so many numbers
abbrev Holds : List ℕ → ℕ → List ℕ → List ℕ → List ℕ → Type 0
Holds table place before xs more = (length before ≡ place) × (table ≡ before ++ (xs ++ more))

first_held : (table : List ℕ) (place : ℕ) (before xs ys more : List ℕ) → Holds table place before (xs ++ ys) more → Holds table place before xs (ys ++ more)
first_held table place before xs ys more h = (h.0, h.1 ∙ ap (λ l. before ++ l) (append_assoc xs ys more))

second_held : (table : List ℕ) (place n : ℕ) (before xs ys more : List ℕ) → length xs ≡ n → Holds table place before (xs ++ ys) more → Holds table (place + n) (before ++ xs) ys more
second_held table place n before xs ys more k h =
    let l : length (before ++ xs) ≡ place + n = omega (arith, length-append before xs, k, h.0) in
    (l, h.1 ∙ ap (λ l. before ++ l) (append_assoc xs ys more) ∙ sym (append_assoc before xs (ys ++ more)))

mutual
  sized : (table : List ℕ) (place : ℕ) (s : SequenceTree) (before more : List ℕ) → Holds table place before (listing s) more → IsSized table place s
  sized table place (sequence first rest) before more h =
      let l = h.0 in
      let e = h.1 in
      let here : get_or table place 0 ≡ suc (parts_size rest) =
      ap (λ t. get_or t place 0) e ∙ ap (λ i. get_or (before ++ suc (parts_size rest) ∷ (parts_listing rest ++ more)) i 0) (sym l) ∙ get_or-append_seam before (suc (parts_size rest)) (parts_listing rest ++ more) 0 in
      (here, parts_sized table (place + 1) rest _ _ (second_held table place 1 before (suc (parts_size rest) ∷ []) (parts_listing rest) more refl h))

  parts_sized : (table : List ℕ) (place : ℕ) (parts : PartTrees) (before more : List ℕ) → Holds table place before (parts_listing parts) more → ArePartsSized table place parts
  parts_sized table place no_part before more h = tt
  parts_sized table place (more_parts shape after rest) before more h =
      let next = second_held table place (shape_size shape) before (shape_listing shape) (0 ∷ parts_listing rest) more (length-shape_listing shape) h in (
        shape_sized table place shape _ _ (first_held table place before (shape_listing shape) (0 ∷ parts_listing rest) more h),
        parts_sized table (behind_shape place shape + 1) rest _ _ (second_held table (behind_shape place shape) 1 (before ++ shape_listing shape) (0 ∷ []) (parts_listing rest) more refl next),
      )

  shape_sized : (table : List ℕ) (place : ℕ) (shape : ShapeTree) (before more : List ℕ) → Holds table place before (shape_listing shape) more → IsShapeSized table place shape
  shape_sized table place (fork yes_ no_ convertible) before more h = (
    side_sized table place yes_ _ _ (first_held table place before (side_listing yes_) (side_listing no_) more h),
    side_sized table (place + side_size yes_) no_ _ _ (second_held table place (side_size yes_) before (side_listing yes_) (side_listing no_) more (length-side_listing yes_) h),
  )
  shape_sized table place (loop post test body step eligible) before more h =
      let inner = second_held table place (sequence_size test) before (listing test) (listing body ++ side_listing step) more (length-listing test) h in (
        sized table place test _ _ (first_held table place before (listing test) (listing body ++ side_listing step) more h),
        (
          sized table (body_start place test) body _ _ (first_held table (body_start place test) (before ++ listing test) (listing body) (side_listing step) more inner),
          side_sized table (body_start place test + sequence_size body) step _ _ (second_held table (body_start place test) (sequence_size body) (before ++ listing test) (listing body) (side_listing step) more (length-listing body) inner),
        ),
      )
  shape_sized table place (switch dead targets other arms) before more h = (
    parts_sized table place dead _ _ (first_held table place before (parts_listing dead) (arms_listing arms) more h),
    arms_sized table (place + parts_size dead) arms _ _ (second_held table place (parts_size dead) before (parts_listing dead) (arms_listing arms) more (length-parts_listing dead) h),
  )
  shape_sized table place (land number) before more h = tt
  shape_sized table place (overlapped point body) before more h = tt

  side_sized : (table : List ℕ) (place : ℕ) (s : SideTree) (before more : List ℕ) → Holds table place before (side_listing s) more → IsSideSized table place s
  side_sized table place no_side before more h = tt
  side_sized table place (side blocks) before more h = sized table place blocks before more h

  arms_sized : (table : List ℕ) (place : ℕ) (arms : ArmTrees) (before more : List ℕ) → Holds table place before (arms_listing arms) more → AreArmsSized table place arms
  arms_sized table place no_arm before more h = tt
  arms_sized table place (more_arms first rest) before more h = (
    sized table place first _ _ (first_held table place before (listing first) (arms_listing rest) more h),
    arms_sized table (place + sequence_size first) rest _ _ (second_held table place (sequence_size first) before (listing first) (arms_listing rest) more (length-listing first) h),
  )

-- a tree's own table
pub listing_sized : (s : SequenceTree) → IsSized (listing s) 0 s
listing_sized s = sized (listing s) 0 s [] [] (refl, sym (append-nil (listing s)))

-- ---- what a table says

pub size_here : (sizes : List ℕ) (place : ℕ) (s : SequenceTree) → IsSized sizes place s → get_or sizes place 0 ≡ sequence_size s
size_here sizes place (sequence first rest) h = h.0

-- ---- how a table grows by a sequence

sequence_listing : (s : Sequence) (rest : List Part) → rest ≡ (out-Sequence s).rest.items → listing (sequence_of s) ≡ suc (parts_size (part_row (map part_of rest))) ∷ parts_listing (part_row (map part_of rest))
sequence_listing s rest e =
    ap listing (fold_out-Sequence ShapeTree PartTree SequenceTree shape_step part_step sequence_step s)
    ∙ sym (ap (λ (xs : List Part). suc (parts_size (part_row (map part_of xs))) ∷ parts_listing (part_row (map part_of xs))) e)

pub listed : (old l1 l2 l3 : List ℕ) (s : Sequence) (rest : List Part) (first count n : ℕ) → rest ≡ (out-Sequence s).rest.items → l1 ≡ old ++ 0 ∷ [] → l2 ≡ l1 ++ parts_listing (part_row (map part_of rest)) → first ≡ length old
    → n ≡ parts_size (part_row (map part_of rest)) → count ≡ n + 1 → l3 ≡ slice_set l2 first count → l3 ≡ old ++ listing (sequence_of s)
listed old l1 l2 l3 s rest first count n e h1 h2 h3 h4 h5 h6 =
    let row = parts_listing (part_row (map part_of rest)) in
    let whole : l2 ≡ old ++ 0 ∷ row = h2 ∙ ap (λ l. l ++ row) h1 ∙ append_assoc old (0 ∷ []) row in
    let counted : count ≡ suc (parts_size (part_row (map part_of rest))) = omega (arith, h4, h5) in
    h6 ∙ ap (λ l. slice_set l first count) whole ∙ ap (λ i. slice_set (old ++ 0 ∷ row) i count) h3 ∙ set-append_seam old 0 row count ∙ ap (λ k. old ++ k ∷ row) counted ∙ sym (ap (λ l. old ++ l) (sequence_listing s rest e))

-- ---- one part or arm further

arm_after : (sizes : List ℕ) (i place next : ℕ) (arms : List Sequence) → i < length arms → next ≡ place + get_or sizes place 0 → AreArmsSized sizes place (arm_row (map sequence_of (drop i arms)))
    → (next + arms_size (arm_row (map sequence_of (drop (suc i) arms))) ≡ place + arms_size (arm_row (map sequence_of (drop i arms)))) × AreArmsSized sizes next (arm_row (map sequence_of (drop (suc i) arms)))
arm_after sizes i place next [] lt e h = absurd (omega (arith, lt))
arm_after sizes zero place next (s ∷ ss) lt e h =
    let k : next ≡ place + sequence_size (sequence_of s) = e ∙ ap (λ n. place + n) (size_here sizes place (sequence_of s) h.0) in
    (omega (arith, k), subst (λ i. AreArmsSized sizes i (arm_row (map sequence_of ss))) (sym k) h.1)
arm_after sizes (suc i) place next (s ∷ ss) lt e h = arm_after sizes i place next ss (omega (arith, lt)) e h

part_after : (sizes : List ℕ) (i place next : ℕ) (parts : List Part) (p : Part) → i < length parts → p ≡ get_or parts i p → next ≡ behind_shape place (shape_of p.shape) + 1 → ArePartsSized sizes place (part_row (map part_of (drop i parts)))
    → (next + parts_size (part_row (map part_of (drop (suc i) parts))) ≡ place + parts_size (part_row (map part_of (drop i parts)))) × ArePartsSized sizes next (part_row (map part_of (drop (suc i) parts)))
part_after sizes i place next [] p lt at e h = absurd (omega (arith, lt))
part_after sizes zero place next (q ∷ qs) p lt at e h =
    let k : next ≡ behind_shape place (shape_of q.shape) + 1 = e ∙ ap (λ (x : Part). behind_shape place (shape_of x.shape) + 1) at in
    let row = row_more q qs in
    let g = subst (λ r. ArePartsSized sizes place r) row h in
    let n = ap parts_size row in
    (omega (arith, k, n), subst (λ i. ArePartsSized sizes i (part_row (map part_of qs))) (sym k) g.1)
part_after sizes (suc i) place next (q ∷ qs) p lt at e h = part_after sizes i place next qs p (omega (arith, lt)) at e h

-- the next shape of a row has its sizes
pub here_sized : (sizes : List ℕ) (i place : ℕ) (parts : List Part) (p : Part) → i < length parts → p ≡ get_or parts i p → ArePartsSized sizes place (part_row (map part_of (drop i parts))) → IsShapeSized sizes place (shape_of p.shape)
here_sized sizes i place [] p lt at h = absurd (omega (arith, lt))
here_sized sizes zero place (q ∷ qs) p lt at h = subst (λ (x : Part). IsShapeSized sizes place (shape_of x.shape)) (sym at) (subst (λ r. ArePartsSized sizes place r) (row_more q qs) h).0
here_sized sizes (suc i) place (q ∷ qs) p lt at h = here_sized sizes i place qs p (omega (arith, lt)) at h

pub one_more : (i : ℕ) → suc i ≡ i + 1
one_more i = omega arith

pub next_arm : (sizes : List ℕ) (i place next : ℕ) (arms : List Sequence) → i < length arms → next ≡ place + get_or sizes place 0 → AreArmsSized sizes place (arm_row (map sequence_of (drop i arms)))
    → (next + arms_size (arm_row (map sequence_of (drop (i + 1) arms))) ≡ place + arms_size (arm_row (map sequence_of (drop i arms)))) × AreArmsSized sizes next (arm_row (map sequence_of (drop (i + 1) arms)))
next_arm sizes i place next arms lt e h =
    subst (λ j. (next + arms_size (arm_row (map sequence_of (drop j arms))) ≡ place + arms_size (arm_row (map sequence_of (drop i arms)))) × AreArmsSized sizes next (arm_row (map sequence_of (drop j arms)))) (one_more i)
    (arm_after sizes i place next arms lt e h)

pub next_part : (sizes : List ℕ) (i place next : ℕ) (parts : List Part) (p : Part) → i < length parts → p ≡ get_or parts i p → next ≡ behind_shape place (shape_of p.shape) + 1 → ArePartsSized sizes place (part_row (map part_of (drop i parts)))
    → (next + parts_size (part_row (map part_of (drop (i + 1) parts))) ≡ place + parts_size (part_row (map part_of (drop i parts)))) × ArePartsSized sizes next (part_row (map part_of (drop (i + 1) parts)))
next_part sizes i place next parts p lt at e h =
    subst (λ j. (next + parts_size (part_row (map part_of (drop j parts))) ≡ place + parts_size (part_row (map part_of (drop i parts)))) × ArePartsSized sizes next (part_row (map part_of (drop j parts)))) (one_more i)
    (part_after sizes i place next parts p lt at e h)

-- ---- the places behind the shapes of a row

ends_after : (i place next : ℕ) (parts : List Part) (p : Part) → i < length parts → p ≡ get_or parts i p → next ≡ behind_shape place (shape_of p.shape) + 1
    → ends_of place (part_row (map part_of (drop i parts))) ≡ behind_shape place (shape_of p.shape) ∷ ends_of next (part_row (map part_of (drop (suc i) parts)))
ends_after i place next [] p lt at e = absurd (omega (arith, lt))
ends_after zero place next (q ∷ qs) p lt at e =
    ap (ends_of place) (row_more q qs) ∙ ap (λ (x : Part). behind_shape place (shape_of x.shape) ∷ ends_of (behind_shape place (shape_of x.shape) + 1) (part_row (map part_of qs))) (sym at)
    ∙ ap (λ i. behind_shape place (shape_of p.shape) ∷ ends_of i (part_row (map part_of qs))) (sym e)
ends_after (suc i) place next (q ∷ qs) p lt at e = ends_after i place next qs p (omega (arith, lt)) at e

pub next_end : (i place next : ℕ) (parts : List Part) (p : Part) (ends more whole : List ℕ) → i < length parts → p ≡ get_or parts i p → next ≡ behind_shape place (shape_of p.shape) + 1
    → more ≡ ends ++ behind_shape place (shape_of p.shape) ∷ [] → ends ++ ends_of place (part_row (map part_of (drop i parts))) ≡ whole → more ++ ends_of next (part_row (map part_of (drop (i + 1) parts))) ≡ whole
next_end i place next parts p ends more whole lt at e m h =
    ap (λ l. l ++ ends_of next (part_row (map part_of (drop (i + 1) parts)))) m ∙ append_assoc ends (behind_shape place (shape_of p.shape) ∷ []) (ends_of next (part_row (map part_of (drop (i + 1) parts))))
    ∙ ap (λ l. ends ++ l) (sym (ends_after i place next parts p lt at e ∙ ap (λ j. behind_shape place (shape_of p.shape) ∷ ends_of next (part_row (map part_of (drop j parts)))) (one_more i))) ∙ h

pub ends_at : (parts : List Part) (base k : ℕ) (p : Part) → k < length parts → p ≡ get_or parts k p
    → get_or (ends_of base (part_row (map part_of parts))) k 0 ≡ base + parts_size (part_row (map part_of (take k parts))) + shape_size (shape_of p.shape)
ends_at [] base k p lt at = absurd (omega (arith, lt))
ends_at (q ∷ qs) base zero p lt at =
    let e = ap (λ r. get_or (ends_of base r) 0 0) (row_more q qs) in
    let f = ap (λ (x : Part). shape_size (shape_of x.shape)) at in
    omega (arith, e, f)
ends_at (q ∷ qs) base (suc k) p lt at =
    let e = ap (λ r. get_or (ends_of base r) (suc k) 0) (row_more q qs) in
    let f = ap parts_size (row_more q (take k qs)) in
    let g = ends_at qs (behind_shape base (shape_of q.shape) + 1) k p (omega (arith, lt)) at in
    omega (arith, e, f, g)

-- the first part of a row, and those behind it
pub first_part : (sizes : List ℕ) (place : ℕ) (p : Part) (ps items : List Part) → items ≡ p ∷ ps → ArePartsSized sizes place (part_row (map part_of items))
    → IsShapeSized sizes place (shape_of p.shape) × ArePartsSized sizes (behind_shape place (shape_of p.shape) + 1) (part_row (map part_of ps))
first_part sizes place p ps items e h = subst (λ r. ArePartsSized sizes place r) (ap (λ l. part_row (map part_of l)) e ∙ row_more p ps) h

pub grown : (n1 n2 size : ℕ) (l1 l2 more : List NodeTree) → n1 ≡ length l1 → n2 ≡ length l2 → l2 ≡ l1 ++ more → length more ≡ size → n2 ≡ n1 + size
grown n1 n2 size l1 l2 more e1 e2 e k = let f = ap length e in omega (arith, e1, e2, f, length-append l1 more, k)
