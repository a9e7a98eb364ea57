use Rattle.std.proofs.Common.{List, take}
use Rattle.rtl_logic.specs.Making.{circuit}
use Rattle.datapath.specs.Plans.{Plan}
use Rattle.datapath.specs.Cycles.{Register}
use Rattle.datapath.specs.CircuitWires.Carrying.{IsBegun}
use Rattle.circuit_context.specs.Contexts.{IsContext}
use Rattle.circuit_control.specs.Spans.{MakesGoing, GroupsFit}
use Rattle.circuit_control.proofs.time.going_groups.Given as goal

abbrev pub invariant-loop-group : goal.invariant-loop-group
invariant-loop-group l = (p : Plan) (names : List Register) → IsContext p names l.of → IsBegun p names (circuit l.initial.logic) → GroupsFit (circuit l.initial.logic) l.groups
    → MakesGoing p names (circuit l.initial.logic) (circuit l.logic) l.bits.items (take l.group-index l.groups)
