use Rattle.rtl_core.specs.ClockStep.{widths}
use Rattle.rtl_core.specs.Valid.{HasBits}
use Rattle.rtl_logic.specs.Making.{circuit, IsSound}
use Rattle.circuit_context.specs.Levels.{AreWords, HalvesPart}
use Rattle.circuit_context.proofs.levels.halved.Given as goal

abbrev pub invariant-loop-k : goal.invariant-loop-k
invariant-loop-k l = IsSound (circuit l.fn.logic) → HasBits (widths (circuit l.fn.logic)) 1 l.fn.test → AreWords (circuit l.fn.logic) l.fn.level
    → HalvesPart (circuit l.fn.logic) (circuit l.logic) l.fn.test l.k l.fn.level l.half.items
