use Rattle.std.proofs.Common.{List, take, map}
use Rattle.rtl_logic.specs.Making.{circuit}
use Rattle.datapath.specs.Plans.{Plan}
use Rattle.datapath.specs.Cycles.{Register}
use Rattle.datapath.specs.CircuitWires.Carrying.{IsBegun}
use Rattle.circuit_context.specs.Contexts.{IsContext}
use Rattle.circuit_units.specs.Demands.Collected.{CollectsNodes}
use Rattle.circuit_units.proofs.demands.demands.collect.Given as goal

abbrev pub invariant-loop-number : goal.invariant-loop-number
invariant-loop-number l = (p : Plan) (names : List Register) → IsContext p names l.of → IsBegun p names (circuit l.initial.logic)
    → CollectsNodes p names (circuit l.initial.logic) (circuit l.logic) l.initial.log.pushes.items l.log.pushes.items (take l.number l.of.cfg.now.nodes.items) (map (λ row. row.items) l.wires.items)
