use Rattle.std.proofs.Common.{◌≡◌, ◌+◌, ◌++◌, map, drop}
use Rattle.ir_core.specs.Trees.{sequence_of, part_of, part_row, arm_row}
use Rattle.ir_layout.specs.Listing.{parts_listing, arms_listing}
use Rattle.ir_layout.specs.Sizes.{parts_size, arms_size}
use Rattle.ir_layout.proofs.counts.+listing.Given as goal

abbrev pub invariant-list_arms-loop-arm : goal.invariant-list_arms-loop-arm
invariant-list_arms-loop-arm l = record {
  count : l.count + arms_size (arm_row (map sequence_of (drop l.arm-index l.arms))) ≡ arms_size (arm_row (map sequence_of l.arms));
  sizes : l.sizes.items ++ arms_listing (arm_row (map sequence_of (drop l.arm-index l.arms))) ≡ l.initial.sizes.items ++ arms_listing (arm_row (map sequence_of l.arms));
}

abbrev pub invariant-list_parts-loop-part : goal.invariant-list_parts-loop-part
invariant-list_parts-loop-part l = record {
  count : l.count + parts_size (part_row (map part_of (drop l.part-index l.parts))) ≡ parts_size (part_row (map part_of l.parts));
  sizes : l.sizes.items ++ parts_listing (part_row (map part_of (drop l.part-index l.parts))) ≡ l.initial.sizes.items ++ parts_listing (part_row (map part_of l.parts));
}
