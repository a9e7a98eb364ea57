use Rattle.std.proofs.Common.{◌≤◌, ◌-◌, ◌^◌, length}
use Rattle.std.specs.List.{All}
use Rattle.rtl_core.specs.ClockStep.{widths}
use Rattle.rtl_core.specs.Valid.{HasBits}
use Rattle.rtl_logic.specs.Making.{circuit, IsSound}
use Rattle.rtl_logic.specs.Choosing.{StandForBits}
use Rattle.rtl_logic.proofs.logic.Logic.any.Given as goal

abbrev pub invariant-loop-round : goal.invariant-loop-round
invariant-loop-round l = record {
  stand : IsSound (circuit l.initial.self) → All (HasBits (widths (circuit l.initial.self)) 1) l.bits → StandForBits (circuit l.initial.self) (circuit l.self) l.bits l.level.items;
  short : length l.level.items ≤ 2 ^ (64 - l._round);
}
