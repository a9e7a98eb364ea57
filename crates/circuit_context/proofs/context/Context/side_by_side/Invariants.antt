use Rattle.std.proofs.Common.{List, take, ◌<◌}
use Rattle.std.specs.Prelude.{IsSome}
use Rattle.rtl_logic.specs.Making.{circuit}
use Rattle.datapath.specs.Plans.{Plan}
use Rattle.datapath.specs.Cycles.{Register}
use Rattle.datapath.specs.CircuitWires.Carrying.{IsBegun}
use Rattle.circuit_context.specs.Contexts.{IsContext, MakesAddress}
use Rattle.circuit_context.proofs.context.Context.side_by_side.Given as goal

abbrev pub invariant-loop-k : goal.invariant-loop-k
invariant-loop-k l = ((p : Plan) (names : List Register) → IsContext p names l.fn.self → IsBegun p names (circuit l.fn.logic)
    → MakesAddress p names (circuit l.fn.logic) (circuit l.logic) l.fn.at.node.0 l.fn.at.time (take l.k l.fn.dims) (take l.k l.fn.subscripts) l.address) × (0 < l.k → IsSome l.address)
