use Rattle.std.proofs.Common.{◌≡◌, ◌≤◌, ◌++◌, ◌+◌, ◌*◌, List, length, map}
use Rattle.std.specs.Option.{option_map}
use Rattle.std.specs.Vec.Iter.{into_iter_items, into_iter_len}
use Rattle.ir_core.specs.Trees.{sequence_of, part_of, shape_of, block_of, part_row, arm_row, side_of}
use Rattle.ir_core.specs.Points.{points_of, part_points, block_point, joined}
use Rattle.ir_layout.specs.Boxes.{block_from}
use Rattle.ir_layout.specs.Nodes.{node_point, node_of}
use Rattle.ir_layout.specs.Sizes.{sequence_size, parts_size, shape_size, side_size, arms_size}
use Rattle.ir_layout.specs.Layout.{Landing, lands_in, laid_arms}
use Rattle.ir_layout.specs.Listing.{ArePartsSized, AreArmsSized}
use Rattle.ir_layout.specs.Views.{stacked, around_of, ahead_view, after_first, laid_behind}
use Rattle.ir_layout.proofs.layout.+sequence.Given as goal

abbrev pub invariant-lay_parts-loop-part : goal.invariant-lay_parts-loop-part
invariant-lay_parts-loop-part l = record {
  fewer : parts_size (part_row (map part_of (map (λ b. b.value) (into_iter_items l.part-iterator)))) ≤ parts_size (part_row (map part_of l.fn.row.parts.items));
  sized : ArePartsSized l.sizes (after_first (length l.flat.nodes.items) (option_map block_of (block_from l.last))) (part_row (map part_of (map (λ b. b.value) (into_iter_items l.part-iterator))));
  points : map node_point l.flat.nodes.items ++ block_point (block_from l.last) ≡ map node_point l.initial.flat.nodes.items ++ (block_point (block_from l.fn.row.first) ++ joined (map part_points (map (λ b. b.value) l.yielded)));
  left : into_iter_len l.part-iterator ≡ length (into_iter_items l.part-iterator);
  lands : (lands : List Landing) → stacked l.initial.flat.lands.items ≡ lands_in (after_first (length l.initial.flat.nodes.items) (option_map block_of (block_from l.fn.row.first))) (part_row (map part_of l.fn.row.parts.items)) lands
      → stacked l.flat.lands.items ≡ lands_in (after_first (length l.flat.nodes.items) (option_map block_of (block_from l.last))) (part_row (map part_of (map (λ b. b.value) (into_iter_items l.part-iterator)))) lands;
  nodes : (lands : List Landing) → stacked l.initial.flat.lands.items ≡ lands_in (after_first (length l.initial.flat.nodes.items) (option_map block_of (block_from l.fn.row.first))) (part_row (map part_of l.fn.row.parts.items)) lands
      → map node_of l.flat.nodes.items ++ laid_behind (around_of l.around lands) (ahead_view l.ways) (length l.flat.nodes.items) (option_map block_of (block_from l.last)) (part_row (map part_of (map (λ b. b.value) (into_iter_items l.part-iterator))))
      ≡ map node_of l.initial.flat.nodes.items ++ laid_behind (around_of l.around lands) (ahead_view l.ways) (length l.initial.flat.nodes.items) (option_map block_of (block_from l.fn.row.first)) (part_row (map part_of l.fn.row.parts.items));
}

abbrev pub invariant-lay_arms-loop-arm : goal.invariant-lay_arms-loop-arm
invariant-lay_arms-loop-arm l = record {
  fewer : arms_size (arm_row (map sequence_of (map (λ b. b.value) (into_iter_items l.arm-iterator)))) ≤ arms_size (arm_row (map sequence_of l.fn.arms.items));
  sized : AreArmsSized l.sizes (length l.flat.nodes.items) (arm_row (map sequence_of (map (λ b. b.value) (into_iter_items l.arm-iterator))));
  points : map node_point l.flat.nodes.items ≡ map node_point l.initial.flat.nodes.items ++ joined (map points_of (map (λ b. b.value) l.yielded));
  left : into_iter_len l.arm-iterator ≡ length (into_iter_items l.arm-iterator);
  lands : stacked l.flat.lands.items ≡ stacked l.initial.flat.lands.items;
  nodes : map node_of l.flat.nodes.items ++ laid_arms (around_of l.around (stacked l.initial.flat.lands.items)) (length l.flat.nodes.items) (arm_row (map sequence_of (map (λ b. b.value) (into_iter_items l.arm-iterator))))
      ≡ map node_of l.initial.flat.nodes.items ++ laid_arms (around_of l.around (stacked l.initial.flat.lands.items)) (length l.initial.flat.nodes.items) (arm_row (map sequence_of l.fn.arms.items));
}

-- the nodes that are still to come, with what is passed on unchanged above what it is passed to
abbrev pub decreases-lay_sequence : goal.decreases-lay_sequence
decreases-lay_sequence l = sequence_size (sequence_of l.sequence.value) * 3

abbrev pub decreases-lay_parts : goal.decreases-lay_parts
decreases-lay_parts l = parts_size (part_row (map part_of l.row.parts.items)) * 3

abbrev pub decreases-lay_shape : goal.decreases-lay_shape
decreases-lay_shape l = shape_size (shape_of l.shape.value) * 3 + 2

abbrev pub decreases-lay_side : goal.decreases-lay_side
decreases-lay_side l = side_size (side_of (option_map (λ part. sequence_of part.value) l.side)) * 3 + 1

abbrev pub decreases-lay_dead : goal.decreases-lay_dead
decreases-lay_dead l = parts_size (part_row (map part_of l.dead.items)) * 3 + 1

abbrev pub decreases-lay_arms : goal.decreases-lay_arms
decreases-lay_arms l = arms_size (arm_row (map sequence_of l.arms.items)) * 3 + 1
