use Rattle.std.proofs.Common.{◌≡◌, ◌*◌, length, take}
use Rattle.std.specs.List.{All}
use Rattle.rtl_core.specs.ClockStep.{widths}
use Rattle.rtl_core.specs.Valid.{HasBits}
use Rattle.rtl_logic.specs.Making.{circuit, IsSound}
use Rattle.rtl_logic.specs.Choosing.{StandForBits}
use Rattle.rtl_logic.proofs.logic.Logic.pairs_or.Given as goal

abbrev pub invariant-loop-k : goal.invariant-loop-k
invariant-loop-k l = record {
  stand : IsSound (circuit l.initial.self) → All (HasBits (widths (circuit l.initial.self)) 1) l.level → StandForBits (circuit l.initial.self) (circuit l.self) (take (2 * l.k) l.level) l.above.items;
  count : length l.above.items ≡ l.k;
}
