use Rattle.std.proofs.Common.{List, take}
use Rattle.rtl_logic.specs.Making.{circuit}
use Rattle.datapath.specs.Plans.{Plan}
use Rattle.datapath.specs.Cycles.{Register}
use Rattle.datapath.specs.CircuitWires.Carrying.{IsBegun}
use Rattle.circuit_context.specs.Contexts.{IsContext}
use Rattle.circuit_units.specs.Demands.Collected.{AreOpsOf, CollectsOps}
use Rattle.circuit_units.proofs.demands.demands.collect_node.Given as goal

abbrev pub invariant-loop-number : goal.invariant-loop-number
invariant-loop-number l = (p : Plan) (names : List Register) → IsContext p names l.of → IsBegun p names (circuit l.initial.logic) → AreOpsOf p l.node.0 l.ops
    → CollectsOps p names (circuit l.initial.logic) (circuit l.logic) l.initial.log.pushes.items l.log.pushes.items l.node.0 (take l.number l.ops) l.wires.items
