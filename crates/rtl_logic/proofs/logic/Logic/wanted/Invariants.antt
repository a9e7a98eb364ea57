use Rattle.std.proofs.Common.{◌≡◌, ℕ, length, take}
use Rattle.std.specs.List.{All, flat_map}
use Rattle.rtl_core.specs.ClockStep.{widths}
use Rattle.rtl_logic.specs.Making.{circuit, IsSound}
use Rattle.rtl_logic.specs.Choosing.{ChoiceFits, StandForChoices, choices_in}
use Rattle.rtl_logic.proofs.logic.Logic.wanted.Given as goal

abbrev pub invariant-loop-group : goal.invariant-loop-group
invariant-loop-group l = record {
  stand : (n : ℕ) → IsSound (circuit l.initial.self) → All (ChoiceFits (widths (circuit l.initial.self)) n) (flat_map choices_in l.group-items)
      → StandForChoices (circuit l.initial.self) (circuit l.self) n (flat_map choices_in (take l.group-index l.group-items)) l.level.items;
  count : length l.level.items ≡ l.group-index;
}
