use Rattle.std.specs.Prelude.{List}
use Rattle.rtl_logic.specs.Making.{circuit}
use Rattle.datapath.specs.Plans.{Plan}
use Rattle.datapath.specs.Cycles.{Register}
use Rattle.datapath.specs.CircuitWires.Carrying.{IsBegun}
use Rattle.circuit_context.specs.Contexts.{IsContext}
use Rattle.circuit_context.specs.Levels.{MakesWords}
use Rattle.circuit_context.proofs.host.words.Given as goal

abbrev pub invariant-loop-array : goal.invariant-loop-array
invariant-loop-array l = (p : Plan) (names : List Register) → IsContext p names l.fn.of → IsBegun p names (circuit l.fn.logic)
    → MakesWords p names (circuit l.fn.logic) (circuit l.logic) l.array l.level.items
