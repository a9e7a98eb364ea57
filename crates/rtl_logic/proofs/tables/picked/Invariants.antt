use Rattle.std.proofs.Common.{ℕ}
use Rattle.std.specs.List.{All}
use Rattle.rtl_core.specs.ClockStep.{widths}
use Rattle.rtl_core.specs.Valid.{HasBits, IsBetween}
use Rattle.rtl_logic.specs.Making.{circuit, IsSound}
use Rattle.rtl_logic.specs.Levels.{Halves}
use Rattle.rtl_logic.proofs.tables.picked.Given as goal

abbrev pub invariant-loop-k : goal.invariant-loop-k
invariant-loop-k l = (n : ℕ) → IsSound (circuit l.initial.logic) → IsBetween 1 128 n → HasBits (widths (circuit l.initial.logic)) 1 l.test → All (HasBits (widths (circuit l.initial.logic)) n) l.level
    → Halves (circuit l.initial.logic) (circuit l.logic) n l.test l.level l.k l.above.items
