use Rattle.std.proofs.Common.{List, take}
use Rattle.std.specs.Prelude.{◌||◌}
use Rattle.std.specs.List.{list_any}
use Rattle.rtl_logic.specs.Making.{circuit}
use Rattle.datapath.specs.Plans.{Plan, numbered}
use Rattle.datapath.specs.Cycles.{Register, Cycle}
use Rattle.datapath.specs.CircuitWires.Carrying.{IsBegun}
use Rattle.circuit_context.specs.Contexts.{IsContext}
use Rattle.circuit_control.specs.Spans.{MakesSpans, initial_goes, node_goes}
use Rattle.circuit_control.proofs.time.all_spans.Given as goal

abbrev pub invariant-loop-number : goal.invariant-loop-number
invariant-loop-number l = (p : Plan) (names : List Register) → IsContext p names l.of → IsBegun p names (circuit l.initial.logic)
    → MakesSpans p names (circuit l.initial.logic) (circuit l.logic) l.all.items (λ (c : Cycle). initial_goes p c || list_any (node_goes p c) (take l.number (numbered p)))
