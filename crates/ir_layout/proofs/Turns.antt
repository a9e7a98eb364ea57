-- The nodes so far and those to come, part by part and arm by arm.
use Rattle.std.proofs.Common.{◌≡◌, ◌∙◌, ◌+◌, ℕ, refl, ap, sym, arith, List, [], ◌∷◌, ◌++◌, length, map, length-append, append_assoc, append-nil, Option, Some}
use Rattle.ir_core.specs.declared.tree.Part.{Part}
use Rattle.ir_core.specs.declared.tree.Sequence.{Sequence}
use Rattle.ir_core.specs.Trees.{BlockTree, PartTrees, more_parts, ShapeTree, part_of, part_row, shape_of, block_of, sequence_of, arm_row}
use Rattle.ir_layout.specs.declared.ways.Around as a
use Rattle.ir_layout.specs.Nodes.{NodeTree}
use Rattle.ir_layout.specs.Sizes.{sequence_size, shape_size}
use Rattle.ir_layout.specs.Layout.{Ahead, onto, Landing, lands_in, with_land, ahead_of, behind_shape, laid, laid_shape, laid_arms}
use Rattle.ir_layout.specs.Views.{around_of, after_first, block_node, laid_behind}
use Rattle.ir_layout.proofs.Parts.{row_more}
use Rattle.ir_layout.proofs.Lengths.{length-laid, length-shape}

pub none_left : {A : Type 0} (l : List A) → length l ≡ 0 → l ≡ []
none_left [] e = refl
none_left (x ∷ xs) e = absurd (omega (arith, e))

-- a block, if there is one, and a part
module _ (around : a.Around) (s0 s1 s2 : List Landing) (n n1 n2 : ℕ) (x : Option BlockTree) (p : Part) (ps items : List Part) (l0 l1 l2 : List NodeTree)
    (first : items ≡ p ∷ ps) (e1 : n1 ≡ after_first n x) (f1 : n1 ≡ length l1) (f2 : n2 ≡ length l2)
    (h1 : l1 ≡ l0 ++ block_node (around_of around s0) (ahead_of (after_first n x) (shape_of p.shape)) x)
    (h2 : l2 ≡ l1 ++ laid_shape (around_of around s1) n1 (shape_of p.shape))
    (d1 : (place : ℕ) (lands : List Landing) → s0 ≡ with_land place (shape_of p.shape) lands → s1 ≡ lands) (d2 : s2 ≡ s1)
    (lands : List Landing) (d0 : s0 ≡ lands_in (after_first n x) (part_row (map part_of items)) lands) where
  abbrev here : ℕ
  here = after_first n x

  abbrev shape : ShapeTree
  shape = shape_of p.shape

  abbrev rest : PartTrees
  rest = part_row (map part_of ps)

  row : part_row (map part_of items) ≡ more_parts shape (block_of p.after) rest
  row = ap (λ l. part_row (map part_of l)) first ∙ row_more p ps

  lands_before : s0 ≡ lands_in here (more_parts shape (block_of p.after) rest) lands
  lands_before = d0 ∙ ap (λ r. lands_in here r lands) row

  lands_inside : s1 ≡ lands_in (behind_shape here shape + 1) rest lands
  lands_inside = d1 (behind_shape here shape) (lands_in (behind_shape here shape + 1) rest lands) lands_before

  behind_second : n2 ≡ behind_shape here shape
  behind_second =
      let own = laid_shape (around_of around s1) n1 shape in
      f2 ∙ ap length h2 ∙ length-append l1 own ∙ (let q : length l1 + length own ≡ here + shape_size shape = omega (arith, length-shape (around_of around s1) n1 shape, f1, e1) in q)

  pub lands_behind : s2 ≡ lands_in (n2 + 1) rest lands
  lands_behind = d2 ∙ lands_inside ∙ ap (λ i. lands_in (i + 1) rest lands) (sym behind_second)

  pub part_turn : (ahead : Ahead) (all : List NodeTree) → l0 ++ laid_behind (around_of around lands) ahead n x (part_row (map part_of items)) ≡ all
      → l2 ++ laid_behind (around_of around lands) ahead n2 (Some (block_of p.after)) rest ≡ all
  part_turn ahead all h =
      let after = block_of p.after in
      let z = laid_behind (around_of around lands) ahead (behind_shape here shape) (Some after) rest in
      let own = laid_shape (around_of around (lands_in (behind_shape here shape + 1) rest lands)) here shape in
      ap (λ i. l2 ++ laid_behind (around_of around lands) ahead i (Some after) rest) behind_second
      ∙ ap (λ l. l ++ z) (h2 ∙ ap (λ s. l1 ++ laid_shape (around_of around s) n1 shape) lands_inside ∙ ap (λ i. l1 ++ laid_shape (around_of around (lands_in (behind_shape here shape + 1) rest lands)) i shape) e1)
      ∙ append_assoc l1 own z
      ∙ ap (λ l. l ++ (own ++ z)) (h1 ∙ ap (λ s. l0 ++ block_node (around_of around s) (ahead_of here shape) x) lands_before)
      ∙ append_assoc l0 (block_node (around_of around (lands_in here (more_parts shape after rest) lands)) (ahead_of here shape) x) (own ++ z)
      ∙ ap (λ r. l0 ++ laid_behind (around_of around lands) ahead n x r) (sym row)
      ∙ h

-- no part is left
pub parts_end : (around : a.Around) (lands s0 : List Landing) (ahead : Ahead) (n : ℕ) (x : Option BlockTree) (items : List Part) (l0 l1 all : List NodeTree) → length items ≡ 0
    → s0 ≡ lands_in (after_first n x) (part_row (map part_of items)) lands → l1 ≡ l0 ++ block_node (around_of around s0) ahead x
    → l0 ++ laid_behind (around_of around lands) ahead n x (part_row (map part_of items)) ≡ all → l1 ≡ all
parts_end around lands s0 ahead n x items l0 l1 all none d h1 h =
    let e = none_left items none in
    h1
    ∙ ap (λ s. l0 ++ block_node (around_of around s) ahead x) (d ∙ ap (λ l. lands_in (after_first n x) (part_row (map part_of l)) lands) e)
    ∙ ap (λ l. l0 ++ l) (sym (append-nil (block_node (around_of around lands) ahead x)))
    ∙ ap (λ l. l0 ++ laid_behind (around_of around lands) ahead n x (part_row (map part_of l))) (sym e)
    ∙ h

-- an arm
pub arm_turn : (around : a.Around) (lands s0 : List Landing) (n n1 b : ℕ) (s : Sequence) (ss items : List Sequence) (l0 l1 all : List NodeTree) → items ≡ s ∷ ss → n ≡ length l0 → n1 ≡ length l1 → b ≡ n + sequence_size (sequence_of s) → s0 ≡ lands
    → l1 ≡ l0 ++ laid (around_of around s0) (onto b) n (sequence_of s) → l0 ++ laid_arms (around_of around lands) n (arm_row (map sequence_of items)) ≡ all
    → l1 ++ laid_arms (around_of around lands) n1 (arm_row (map sequence_of ss)) ≡ all
arm_turn around lands s0 n n1 b s ss items l0 l1 all first e0 e1 eb d h1 h =
    let next = n + sequence_size (sequence_of s) in
    let own = laid (around_of around lands) (onto next) n (sequence_of s) in
    let more = laid_arms (around_of around lands) next (arm_row (map sequence_of ss)) in
    let h2 : l1 ≡ l0 ++ own = h1 ∙ ap (λ i. l0 ++ laid (around_of around s0) (onto i) n (sequence_of s)) eb ∙ ap (λ x. l0 ++ laid (around_of around x) (onto next) n (sequence_of s)) d in
    let here : n1 ≡ next = e1 ∙ ap length h2 ∙ length-append l0 own ∙ (let q : length l0 + length own ≡ next = omega (arith, e0, length-laid (around_of around lands) (onto next) n (sequence_of s)) in q) in
    ap (λ i. l1 ++ laid_arms (around_of around lands) i (arm_row (map sequence_of ss))) here ∙ ap (λ l. l ++ more) h2 ∙ append_assoc l0 own more ∙ ap (λ l. l0 ++ laid_arms (around_of around lands) n (arm_row (map sequence_of l))) (sym first) ∙ h
