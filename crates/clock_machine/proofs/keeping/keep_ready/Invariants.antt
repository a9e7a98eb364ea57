use Rattle.std.proofs.Common.{◌≡◌, ◌-◌, ◌<◌, ℕ, length, map}
use Rattle.ir_core.specs.Bodies.{Shapes}
use Rattle.clock_ir.specs.Flows.{TimedBody, Flow}
use Rattle.clock_machine.specs.declared.lines.program.Action.{Action}
use Rattle.clock_machine.specs.Lines.Agendas.{phase_at}
use Rattle.clock_machine.specs.Lines.Registers.{SameSizes}
use Rattle.clock_machine.specs.Lines.Showing.{HasLines}
use Rattle.clock_machine.proofs.LinesLemmas.Phases.{Walked}
use Rattle.clock_machine.specs.Keeping.{IsForm, IsNextMoment, ShowsGiven}
use Rattle.clock_machine.proofs.Made.{DoneAt}
use Rattle.clock_machine.proofs.Ready.{StillAt, ReadyAt}
use Rattle.clock_machine.proofs.keeping.keep_ready.Given as goal

abbrev pub invariant-loop-number : goal.invariant-loop-number
invariant-loop-number l = record {
  variables : l.registers.variables ≡ l.initial.registers.variables;
  sizes : SameSizes l.initial.registers l.registers;
  ready : (shapes : Shapes) (b : TimedBody) (f : Flow) → IsForm shapes.widths b l.work l.initial.registers → IsNextMoment b f l.phase l.time → ShowsGiven shapes b l.work.lines.items l.initial.registers f
      → record {
        rooms : HasLines l.registers l.work.lines.items;
        made : (k : ℕ) → DoneAt shapes b l.work.lines.items l.registers f k;
        at : l.number < length l.work.actions.items → phase_at b.interval (map (λ (a : Action). a.ready) l.work.actions.items) l.number ≡ l.phase;
        walked : Walked (ReadyAt shapes b l.work.lines.items l.registers f) (StillAt b l.work.lines.items l.registers f) l.number;
      };
}

abbrev pub decreases-loop-number : goal.decreases-loop-number
decreases-loop-number l = length l.work.actions.items - l.number
