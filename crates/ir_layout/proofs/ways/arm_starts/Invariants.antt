use Rattle.std.proofs.Common.{◌≡◌, ◌++◌, map, drop}
use Rattle.ir_core.specs.Trees.{sequence_of, arm_row}
use Rattle.ir_layout.specs.Listing.{AreArmsSized}
use Rattle.ir_layout.specs.Views.{number, arm_starts_from}
use Rattle.ir_layout.proofs.ways.arm_starts.Given as goal

abbrev pub invariant-loop : goal.invariant-loop
invariant-loop l = record {
  starts : map number l.starts.items ++ arm_starts_from l.place (arm_row (map sequence_of (drop l.index l.arms))) ≡ arm_starts_from l.base (arm_row (map sequence_of l.arms));
  sized : AreArmsSized l.sizes l.place (arm_row (map sequence_of (drop l.index l.arms)));
}
