use Rattle.std.proofs.Common.{◌≡◌, ◌-◌, ◌<◌, length, map}
use Rattle.ir_core.specs.Bodies.{Shapes}
use Rattle.flat_programs.specs.Memory.Contents.{dims_in, words_in}
use Rattle.clock_ir.specs.Flows.{TimedBody, Flow, behind_stores, gates_now}
use Rattle.clock_machine.specs.declared.lines.program.Action.{Action}
use Rattle.clock_machine.specs.Lines.Agendas.{phase_at}
use Rattle.clock_machine.specs.Lines.Showing.{ShowsGates}
use Rattle.clock_machine.specs.Standing.{IsAt}
use Rattle.clock_machine.proofs.Storing.{from}
use Rattle.clock_machine.proofs.state.State.start_stores.Given as goal

abbrev pub invariant-loop-number : goal.invariant-loop-number
invariant-loop-number l = record {
  same : l.self ≡ record l.initial.self { args = l.self.args; memories = l.self.memories };
  dims : dims_in l.self.memories ≡ dims_in l.initial.self.memories;
  args : length l.self.args.items ≡ length l.initial.self.args.items;
  stores : (shapes : Shapes) (b : TimedBody) (f : Flow) → IsAt shapes b l.work f l.initial.self → ShowsGates (gates_now b f) l.initial.self.moment.failed → words_in l.initial.self.memories ≡ f.memories
      → record {
        at : l.number < length l.work.actions.items → phase_at b.interval (map (λ (a : Action). a.start) l.work.actions.items) l.number ≡ l.initial.self.moment.phase;
        rest : from shapes b f l.number (words_in l.self.memories) ≡ behind_stores shapes b f b.ops f.memories;
      };
}

abbrev pub decreases-loop-number : goal.decreases-loop-number
decreases-loop-number l = length l.work.actions.items - l.number
