-- No node has more operations than the blocks of its tree together.
use Rattle.std.proofs.Common.{◌≡◌, ◌≤◌, ◌+◌, ℕ, zero, suc, subst, sym, arith, List, [], ◌∷◌, ◌++◌, length, map, Some}
use Rattle.std.specs.Prelude.{slice_get}
use Rattle.std.proofs.lemmas.List.{length-map}
use Rattle.ir_core.specs.declared.cfg.Node.{Node}
use Rattle.ir_core.specs.declared.cfg.Node.TheVariants as node
use Rattle.ir_core.specs.declared.stamp.Untimed.{Untimed}
use Rattle.ir_core.specs.Bodies.{OpTree, op_of}
use Rattle.ir_core.specs.Trees.{SequenceTree, sequence, PartTrees, no_part, more_parts, ShapeTree, fork, loop, switch, land, overlapped, SideTree, no_side, side, ArmTrees, no_arm, more_arms}
use Rattle.ir_layout.specs.Nodes.{NodeTree, plain, looped, node_of}
use Rattle.ir_layout.specs.Sizes.{sequence_size, parts_size, side_size, arms_size}
use Rattle.ir_layout.specs.Layout.{Ahead, onto, tested, Around, laid_block, ahead_of_parts, behind_shape, before_parts, in_loop, in_switch, body_start, step_start, laid, laid_parts, laid_shape, laid_side, laid_arms}
use Rattle.program_validity.specs.Programs.{body_in}
use Rattle.passes.specs.Totals.{operations, sequence_total, parts_total, shape_total, side_total, arms_total}

abbrev ops_in : NodeTree → List OpTree
ops_in (plain point body end_) = body.ops
ops_in (looped point body next) = body.ops

-- nodes of at most so many operations
abbrev pub AreShort : ℕ → List NodeTree → Type 0
AreShort n [] = Unit {0}
AreShort n (x ∷ xs) = (length (ops_in x) ≤ n) × AreShort n xs

module _ (n : ℕ) where
  both_short : (xs ys : List NodeTree) → AreShort n xs → AreShort n ys → AreShort n (xs ++ ys)
  both_short [] ys h k = k
  both_short (x ∷ xs) ys h k = (h.0, both_short xs ys h.1 k)

  mutual
    pub laid_short : (around : Around) (ahead : Ahead) (place : ℕ) (s : SequenceTree) → sequence_total operations s ≤ n → AreShort n (laid around ahead place s)
    laid_short around ahead place (sequence first rest) h = (omega (arith, h), parts_short around ahead (place + 1) rest (omega (arith, h)))

    parts_short : (around : Around) (ahead : Ahead) (place : ℕ) (p : PartTrees) → parts_total operations p ≤ n → AreShort n (laid_parts around ahead place p)
    parts_short around ahead place no_part h = tt
    parts_short around ahead place (more_parts shape after rest) h =
        let further = behind_shape place shape + 1 in
        let inner = before_parts further rest around in
        both_short (laid_shape inner place shape) (laid_block inner (ahead_of_parts further rest ahead) after ∷ laid_parts around ahead further rest) (shape_short inner place shape (omega (arith, h)))
        (omega (arith, h), parts_short around ahead further rest (omega (arith, h)))

    shape_short : (around : Around) (place : ℕ) (shape : ShapeTree) → shape_total operations shape ≤ n → AreShort n (laid_shape around place shape)
    shape_short around place (fork yes_ no_ convertible) h =
        let after = place + (side_size yes_ + side_size no_) in
        both_short (laid_side around after place yes_) (laid_side around after (place + side_size yes_) no_) (side_short around after place yes_ (omega (arith, h))) (side_short around after (place + side_size yes_) no_ (omega (arith, h)))
    shape_short around place (loop post test body step eligible) h =
        let after = place + (sequence_size test + (sequence_size body + side_size step)) in
        let start = step_start place test body step in
        let inner = in_loop after start around in
        let second = laid inner (onto start) (body_start place test) body in
        let third = laid_side inner place (body_start place test + sequence_size body) step in
        both_short (laid inner (tested (body_start place test) after) place test) (second ++ third) (laid_short inner (tested (body_start place test) after) place test (omega (arith, h)))
        (both_short second third (laid_short inner (onto start) (body_start place test) body (omega (arith, h))) (side_short inner place (body_start place test + sequence_size body) step (omega (arith, h))))
    shape_short around place (switch dead targets other arms) h =
        let inner = in_switch (place + (parts_size dead + arms_size arms)) around in
        let start = place + parts_size dead in
        both_short (laid_parts inner (onto start) place dead) (laid_arms inner start arms) (parts_short inner (onto start) place dead (omega (arith, h))) (arms_short inner start arms (omega (arith, h)))
    shape_short around place (land number) h = tt
    shape_short around place (overlapped point body) h = (h, tt)

    side_short : (around : Around) (after place : ℕ) (s : SideTree) → side_total operations s ≤ n → AreShort n (laid_side around after place s)
    side_short around after place no_side h = tt
    side_short around after place (side blocks) h = laid_short around (onto after) place blocks h

    arms_short : (around : Around) (place : ℕ) (p : ArmTrees) → arms_total operations p ≤ n → AreShort n (laid_arms around place p)
    arms_short around place no_arm h = tt
    arms_short around place (more_arms first rest) h =
        let further = place + sequence_size first in
        both_short (laid around (onto further) place first) (laid_arms around further rest) (laid_short around (onto further) place first (omega (arith, h))) (arms_short around further rest (omega (arith, h)))

  -- ---- the code's nodes

  node_ops : (x : Node Untimed) → length (body_in x).ops.items ≡ length (ops_in (node_of x))
  node_ops (node.Plain block) = sym (length-map block.body.ops.items op_of)
  node_ops (node.Looped region) = sym (length-map region.body.ops.items op_of)

  pub node_short : (xs : List (Node Untimed)) → AreShort n (map node_of xs) → (i : ℕ) (x : Node Untimed) → slice_get xs i ≡ Some x → length (body_in x).ops.items ≤ n
  node_short [] h i x e = absurd cc
  node_short (y ∷ ys) h zero x e =
      let same : y ≡ x = cc in let one = h.0 in let two = node_ops y in subst (λ z. length (body_in z).ops.items ≤ n) same (omega (arith, one, two))
  node_short (y ∷ ys) h (suc i) x e = node_short ys h.1 i x e
