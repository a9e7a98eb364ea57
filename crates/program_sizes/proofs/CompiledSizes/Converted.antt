-- A converted tree becomes no more nodes than before.
use Rattle.std.proofs.Common.{◌≡◌, ◌≤◌, ◌+◌, ℕ, Bool, ◌&&◌, refl, arith, List, Option, Some, None}
use Rattle.ir_core.specs.declared.body.Operand.{Operand}
use Rattle.ir_core.specs.Trees.{BlockTree, SequenceTree, sequence, PartTrees, no_part, more_parts, ShapeTree, fork, loop, switch, land, overlapped, SideTree, no_side, side, ArmTrees, no_arm, more_arms}
use Rattle.passes.specs.Conversion.Merging.{Branches, branches_of, opened}
use Rattle.passes.specs.Conversion.Overlapping.{loop_by, chosen_test}
use Rattle.passes.specs.Conversion.{Scope, going_on, part_before, behind, converted_sequence, converted_behind, converted_parts, converted_shape, converted_side, converted_arms}
use Rattle.ir_layout.specs.Sizes.{sequence_size, parts_size, shape_size, side_size, arms_size}

before_same : (shape : ShapeTree) (s : SequenceTree) → parts_size (part_before shape s) ≡ shape_size shape + sequence_size s
before_same shape (sequence first rest) = refl

-- Where the fork behind a block is merged, neither the fork nor the block becomes nodes of its own.
behind_less : (b : BlockTree) (shape : ShapeTree) (x : Option Branches) (s : SequenceTree) → sequence_size (behind b shape x s) ≤ 1 + shape_size shape + sequence_size s
behind_less b shape None s = let one = before_same shape s in omega (arith, one)
behind_less b shape (Some f) s = omega arith

first_node : (s : SequenceTree) → 1 ≤ sequence_size s
first_node (sequence first rest) = omega arith

-- A loop that is overlapped becomes one node.
loop_less : (widths : List ℕ) (x : Option Operand) (post : Bool) (test body : SequenceTree) (step : SideTree) → shape_size (loop_by widths x post test body step) ≤ sequence_size test + sequence_size body + side_size step
loop_less widths None post test body step = omega arith
loop_less widths (Some known) post test body step = let one = first_node test in omega (arith, one)

module _ (scope : Scope) where
  mutual
    pub converted_nodes : (s : SequenceTree) → sequence_size (converted_sequence scope s) ≤ sequence_size s
    converted_nodes (sequence first rest) = let more = blocks_less (opened first) rest in omega (arith, more)

    blocks_less : (b : BlockTree) (rest : PartTrees) → sequence_size (converted_behind scope b rest) ≤ 1 + parts_size rest
    blocks_less b no_part = omega arith
    blocks_less b (more_parts shape after rest) =
        let found = branches_of b.exit (converted_shape scope shape) in
        let one = shape_less shape in
        let two = behind_less b (converted_shape scope shape) found (converted_behind scope (going_on scope.widths b found after) rest) in
        let more = blocks_less (going_on scope.widths b found after) rest in
        omega (arith, one, two, more)

    parts_less : (p : PartTrees) → parts_size (converted_parts scope p) ≤ parts_size p
    parts_less no_part = omega arith
    parts_less (more_parts shape after rest) =
        let one = shape_less shape in
        let two = before_same (converted_shape scope shape) (converted_behind scope (opened after) rest) in
        let more = blocks_less (opened after) rest in
        omega (arith, one, two, more)

    shape_less : (shape : ShapeTree) → shape_size (converted_shape scope shape) ≤ shape_size shape
    shape_less (fork yes_ no_ convertible) = let one = side_less yes_ in let two = side_less no_ in omega (arith, one, two)
    shape_less (loop post test body step eligible) =
        let t = converted_sequence scope test in
        let b = converted_sequence scope body in
        let s = converted_side scope step in
        let one = loop_less scope.widths (chosen_test (eligible && scope.loops) post t b s) post t b s in
        let two = converted_nodes test in
        let three = converted_nodes body in
        let four = side_less step in
        omega (arith, one, two, three, four)
    shape_less (switch dead targets other arms) = let one = parts_less dead in let two = arms_less arms in omega (arith, one, two)
    shape_less (land number) = omega arith
    shape_less (overlapped point body) = omega arith

    side_less : (s : SideTree) → side_size (converted_side scope s) ≤ side_size s
    side_less no_side = omega arith
    side_less (side blocks) = converted_nodes blocks

    arms_less : (p : ArmTrees) → arms_size (converted_arms scope p) ≤ arms_size p
    arms_less no_arm = omega arith
    arms_less (more_arms first rest) = let one = converted_nodes first in let more = arms_less rest in omega (arith, one, more)
