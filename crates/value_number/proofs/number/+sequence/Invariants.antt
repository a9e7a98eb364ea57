use Rattle.std.proofs.Common.{◌≡◌, ◌≤◌, ◌+◌, ◌*◌, true, map}
use Rattle.std.specs.Option.{option_map}
use Rattle.std.specs.Vec.Iter.{into_iter_items}
use Rattle.ir_core.specs.Trees.{sequence_of, part_of, shape_of, part_row, side_of, arm_row}
use Rattle.passes.specs.Numbering as n
use Rattle.value_number.specs.Settled.{all_true, is_part_settled, is_sequence_settled}
use Rattle.value_number.specs.Views.{scope_of}
use Rattle.value_number.proofs.Counting.{sequence_size, parts_size, shape_size, side_size, arms_size}
use Rattle.value_number.proofs.number.+sequence.Given as goal

abbrev pub invariant-number_parts-loop-part : goal.invariant-number_parts-loop-part
invariant-number_parts-loop-part l = record {
  fewer : parts_size (part_row (map part_of (map (λ b. b.value) (into_iter_items l.part-iterator)))) ≤ parts_size (part_row (map part_of l.fn.parts.items));
  settled : all_true (map is_part_settled l.done.items) ≡ true;
  numbered : part_row (map part_of l.done.items) ≡ n.numbered_parts (scope_of l.scope) (part_row (map part_of (map (λ b. b.value) l.yielded)));
}

abbrev pub invariant-number_arms-loop-arm : goal.invariant-number_arms-loop-arm
invariant-number_arms-loop-arm l = record {
  fewer : arms_size (arm_row (map sequence_of (map (λ b. b.value) (into_iter_items l.arm-iterator)))) ≤ arms_size (arm_row (map sequence_of l.fn.arms.items));
  settled : all_true (map is_sequence_settled l.done.items) ≡ true;
  numbered : arm_row (map sequence_of l.done.items) ≡ n.numbered_arms (scope_of l.scope) (arm_row (map sequence_of (map (λ b. b.value) l.yielded)));
}

-- the blocks and shapes that are gone through, with what is passed on unchanged above what it is passed to
abbrev pub decreases-number_sequence : goal.decreases-number_sequence
decreases-number_sequence l = sequence_size (sequence_of l.sequence.value) * 4

abbrev pub decreases-number_parts : goal.decreases-number_parts
decreases-number_parts l = parts_size (part_row (map part_of l.parts.items)) * 4

abbrev pub decreases-number_part : goal.decreases-number_part
decreases-number_part l = shape_size (shape_of l.part.value.shape) * 4 + 3

abbrev pub decreases-number_shape : goal.decreases-number_shape
decreases-number_shape l = shape_size (shape_of l.shape.value) * 4 + 2

abbrev pub decreases-number_side : goal.decreases-number_side
decreases-number_side l = side_size (side_of (option_map (λ part. sequence_of part.value) l.side)) * 4 + 1

abbrev pub decreases-number_arms : goal.decreases-number_arms
decreases-number_arms l = arms_size (arm_row (map sequence_of l.arms.items)) * 4 + 1
