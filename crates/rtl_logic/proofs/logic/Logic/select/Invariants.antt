use Rattle.std.proofs.Common.{◌≡◌, ◌≤◌, ◌-◌, ◌^◌, ℕ, length}
use Rattle.std.specs.List.{All}
use Rattle.rtl_core.specs.ClockStep.{widths}
use Rattle.rtl_core.specs.Valid.{IsBetween}
use Rattle.rtl_logic.specs.Making.{circuit, IsSound}
use Rattle.rtl_logic.specs.Choosing.{ChoiceFits, StandForChoices}
use Rattle.rtl_logic.proofs.logic.Logic.select.Given as goal

abbrev pub invariant-loop-round : goal.invariant-loop-round
invariant-loop-round l = record {
  stand : (n : ℕ) → IsSound (circuit l.fn.self) → IsBetween 1 128 n → All (ChoiceFits (widths (circuit l.fn.self)) n) l.choices
      → StandForChoices (circuit l.fn.self) (circuit l.self) n l.choices l.level.items;
  short : length l.level.items ≤ 2 ^ (64 - l._round);
  most : length l.level.items ≤ length l.choices;
  some : length l.level.items ≡ 0 → length l.choices ≡ 0;
}
