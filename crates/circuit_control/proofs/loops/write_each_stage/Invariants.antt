use Rattle.std.proofs.Common.{List}
use Rattle.std.specs.Prelude.{◌||◌}
use Rattle.rtl_logic.specs.Making.{circuit}
use Rattle.datapath.specs.Plans.{Plan}
use Rattle.datapath.specs.Cycles.{Register, Cycle}
use Rattle.datapath.specs.Control.{is_loading, ends_interval}
use Rattle.datapath.specs.CircuitWires.Carrying.{IsBegun, Tells}
use Rattle.circuit_context.specs.Wanted.Entries.{passed_entries}
use Rattle.circuit_context.specs.Wanted.Logs.{Logs}
use Rattle.circuit_context.specs.Contexts.{IsContext}
use Rattle.circuit_control.proofs.loops.write_each_stage.Given as goal

abbrev pub invariant-loop-before : goal.invariant-loop-before
invariant-loop-before l = (p : Plan) (names : List Register) → IsContext p names l.of → IsBegun p names (circuit l.initial.logic) → Tells p names (circuit l.initial.logic) l.passing.load (is_loading p)
    → Tells p names (circuit l.initial.logic) l.passing.enable (λ (c : Cycle). is_loading p c || ends_interval p c)
    → Logs p names (circuit l.initial.logic) (circuit l.logic) l.initial.log.pushes.items l.log.pushes.items (passed_entries p l.before)
