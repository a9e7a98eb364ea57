use Rattle.std.specs.Prelude.{List}
use Rattle.rtl_core.specs.Netlist.{Netlist}
use Rattle.rtl_logic.specs.Making.{circuit}
use Rattle.datapath.specs.Plans.{Plan}
use Rattle.datapath.specs.Cycles.{Register}
use Rattle.circuit_context.specs.Contexts.{IsContext}
use Rattle.circuit_context.specs.Levels.{MakesLevel}
use Rattle.circuit_context.proofs.host.chosen.Given as goal

abbrev pub invariant-loop-bit : goal.invariant-loop-bit
invariant-loop-bit l = (p : Plan) (names : List Register) (d : Netlist) → IsContext p names l.fn.of → MakesLevel p names d (circuit l.fn.logic) 0 l.fn.words.items
    → MakesLevel p names d (circuit l.logic) l.bit l.level.items
