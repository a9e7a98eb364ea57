use Rattle.std.proofs.Common.{◌≡◌, ◌≤◌, ◌+◌, ◌*◌, map}
use Rattle.std.specs.Option.{option_map}
use Rattle.std.specs.Vec.Iter.{into_iter_items}
use Rattle.ir_core.specs.Trees.{sequence_of, part_of, shape_of, part_row, side_of, arm_row}
use Rattle.passes.specs.Conversion as spec
use Rattle.if_convert.specs.Blocks.{scope_of, last_of, before_last}
use Rattle.if_convert.proofs.Counting.{sequence_size, parts_size, shape_size, side_size, arms_size}
use Rattle.if_convert.proofs.convert.+sequence.Given as goal

-- what is left stands behind the open block
abbrev pub invariant-convert_behind-loop-part : goal.invariant-convert_behind-loop-part
invariant-convert_behind-loop-part l = record {
  fewer : parts_size (part_row (map part_of (map (λ b. b.value) (into_iter_items l.part-iterator)))) ≤ parts_size (part_row (map part_of l.fn.parts.items));
  left : before_last l.line.value (spec.converted_behind (scope_of l.scope) (last_of l.line.value) (part_row (map part_of (map (λ b. b.value) (into_iter_items l.part-iterator)))))
      ≡ before_last l.fn.line.value (spec.converted_behind (scope_of l.scope) (last_of l.fn.line.value) (part_row (map part_of l.fn.parts.items)));
}

abbrev pub invariant-convert_arms-loop-arm : goal.invariant-convert_arms-loop-arm
invariant-convert_arms-loop-arm l = record {
  fewer : arms_size (arm_row (map sequence_of (map (λ b. b.value) (into_iter_items l.arm-iterator)))) ≤ arms_size (arm_row (map sequence_of l.fn.arms.items));
  done : arm_row (map sequence_of l.done.items) ≡ spec.converted_arms (scope_of l.scope) (arm_row (map sequence_of (map (λ b. b.value) l.yielded)));
}

-- the blocks and shapes that are gone through, with what is passed on unchanged above what it is passed to
abbrev pub decreases-convert_sequence : goal.decreases-convert_sequence
decreases-convert_sequence l = sequence_size (sequence_of l.sequence.value) * 4

abbrev pub decreases-convert_behind : goal.decreases-convert_behind
decreases-convert_behind l = parts_size (part_row (map part_of l.parts.items)) * 4

abbrev pub decreases-convert_part : goal.decreases-convert_part
decreases-convert_part l = shape_size (shape_of l.part.value.shape) * 4 + 3

abbrev pub decreases-convert_shape : goal.decreases-convert_shape
decreases-convert_shape l = shape_size (shape_of l.shape.value) * 4 + 2

abbrev pub decreases-convert_side : goal.decreases-convert_side
decreases-convert_side l = side_size (side_of (option_map (λ part. sequence_of part.value) l.side)) * 4 + 1

abbrev pub decreases-convert_dead : goal.decreases-convert_dead
decreases-convert_dead l = parts_size (part_row (map part_of l.dead.items)) * 4 + 1

abbrev pub decreases-convert_arms : goal.decreases-convert_arms
decreases-convert_arms l = arms_size (arm_row (map sequence_of l.arms.items)) * 4 + 1
