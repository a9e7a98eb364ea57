use Rattle.std.proofs.Common.{◌≡◌, ℕ, List, map, drop}
use Rattle.ir_core.specs.Trees.{sequence_of, part_of, part_row, arm_row}
use Rattle.ir_layout.specs.WellFormed.{lands_in, PartsFit, ArmsFit}
use Rattle.ir_layout.specs.Fitting.{numbered, inside_of, kind_view}
use Rattle.ir_layout.proofs.fits.+sequence.Given as goal

abbrev pub invariant-check_parts-loop-index : goal.invariant-check_parts-loop-index
invariant-check_parts-loop-index l = record {
  lands : (lands : List ℕ) → numbered l.initial.places.lands.items ≡ lands_in (part_row (map part_of l.parts)) lands → numbered l.places.lands.items ≡ lands_in (part_row (map part_of (drop l.index l.parts))) lands;
  fits : (lands : List ℕ) → numbered l.initial.places.lands.items ≡ lands_in (part_row (map part_of l.parts)) lands
      → PartsFit (inside_of l.jumps lands) (kind_view l.ahead) (part_row (map part_of (drop l.index l.parts))) → PartsFit (inside_of l.jumps lands) (kind_view l.ahead) (part_row (map part_of l.parts));
}

abbrev pub invariant-check_arms-loop-arm : goal.invariant-check_arms-loop-arm
invariant-check_arms-loop-arm l = record {
  lands : numbered l.places.lands.items ≡ numbered l.initial.places.lands.items;
  fits : ArmsFit (inside_of l.jumps (numbered l.initial.places.lands.items)) (arm_row (map sequence_of (drop l.arm-index l.arms))) → ArmsFit (inside_of l.jumps (numbered l.initial.places.lands.items)) (arm_row (map sequence_of l.arms));
}
