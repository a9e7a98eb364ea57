use Rattle.std.proofs.Common.{◌≡◌, ◌-◌, ◌<◌, ℕ, length, map}
use Rattle.ir_core.specs.Bodies.{Shapes}
use Rattle.clock_ir.specs.Flows.{TimedBody, Flow}
use Rattle.clock_machine.specs.declared.lines.program.Action.{Action}
use Rattle.clock_machine.specs.Lines.Agendas.{phase_at}
use Rattle.clock_machine.specs.Lines.Registers.{SameSizes}
use Rattle.clock_machine.specs.Lines.Showing.{Shows, HasLines, ShowsChain}
use Rattle.clock_machine.proofs.LinesLemmas.Phases.{Walked}
use Rattle.clock_machine.specs.Keeping.{IsForm, IsMoment, HasGiven}
use Rattle.clock_machine.proofs.Made.{OpenAt, DoneAt}
use Rattle.clock_machine.proofs.keeping.keep_made.Given as goal

abbrev pub invariant-loop-number : goal.invariant-loop-number
invariant-loop-number l = record {
  variables : l.registers.variables ≡ l.initial.registers.variables;
  sizes : SameSizes l.initial.registers l.registers;
  kept : (shapes : Shapes) (b : TimedBody) (f : Flow) → IsForm shapes.widths b l.work l.initial.registers → IsMoment b f l.phase l.time → HasGiven shapes b f l.fresh → Shows b l.work.lines.items l.initial.registers f
      → record {
        rooms : HasLines l.registers l.work.lines.items;
        chains : (k : ℕ) → k < length b.ops → ShowsChain l.registers l.work.lines.items k (f.chain k);
        at : l.number < length l.work.actions.items → phase_at b.interval (map (λ (a : Action). a.start) l.work.actions.items) l.number ≡ l.phase;
        walked : Walked (DoneAt shapes b l.work.lines.items l.registers f) (OpenAt b l.work.lines.items l.registers f) l.number;
      };
}

abbrev pub decreases-loop-number : goal.decreases-loop-number
decreases-loop-number l = length l.work.actions.items - l.number
