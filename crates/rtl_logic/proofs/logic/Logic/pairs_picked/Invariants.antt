use Rattle.std.proofs.Common.{◌≡◌, ◌*◌, ℕ, length, take}
use Rattle.std.specs.List.{All}
use Rattle.rtl_core.specs.ClockStep.{widths}
use Rattle.rtl_core.specs.Valid.{IsBetween}
use Rattle.rtl_logic.specs.Making.{circuit, IsSound}
use Rattle.rtl_logic.specs.Choosing.{ChoiceFits, StandForChoices}
use Rattle.rtl_logic.proofs.logic.Logic.pairs_picked.Given as goal

abbrev pub invariant-loop-k : goal.invariant-loop-k
invariant-loop-k l = record {
  stand : (n : ℕ) → IsSound (circuit l.initial.self) → IsBetween 1 128 n → All (ChoiceFits (widths (circuit l.initial.self)) n) l.level
      → StandForChoices (circuit l.initial.self) (circuit l.self) n (take (2 * l.k) l.level) l.above.items;
  count : length l.above.items ≡ l.k;
}
