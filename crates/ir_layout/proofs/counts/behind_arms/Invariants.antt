use Rattle.std.proofs.Common.{◌≡◌, ◌+◌, map, drop}
use Rattle.ir_core.specs.Trees.{sequence_of, arm_row}
use Rattle.ir_layout.specs.Listing.{AreArmsSized}
use Rattle.ir_layout.specs.Sizes.{arms_size}
use Rattle.ir_layout.proofs.counts.behind_arms.Given as goal

abbrev pub invariant-loop : goal.invariant-loop
invariant-loop l = record {
  behind : l.behind + arms_size (arm_row (map sequence_of (drop l.index l.arms))) ≡ l.place + arms_size (arm_row (map sequence_of l.arms));
  sized : AreArmsSized l.sizes l.behind (arm_row (map sequence_of (drop l.index l.arms)));
}
