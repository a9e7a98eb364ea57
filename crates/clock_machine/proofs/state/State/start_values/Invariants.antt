use Rattle.std.proofs.Common.{◌≡◌, ◌-◌, ◌<◌, ℕ, length, map}
use Rattle.ir_core.specs.Bodies.{Shapes}
use Rattle.flat_programs.specs.Memory.Contents.{words_in}
use Rattle.clock_ir.specs.Flows.{TimedBody, Flow}
use Rattle.clock_machine.specs.declared.lines.program.Action.{Action}
use Rattle.clock_machine.specs.Lines.Agendas.{phase_at}
use Rattle.clock_machine.specs.Keeping.{GivesAt}
use Rattle.clock_machine.specs.Standing.{IsAt}
use Rattle.clock_machine.proofs.state.State.start_values.Given as goal

abbrev pub invariant-loop-number : goal.invariant-loop-number
invariant-loop-number l = record {
  same : l.self ≡ record l.initial.self { args = l.self.args; fresh = l.self.fresh };
  args : length l.self.args.items ≡ length l.initial.self.args.items;
  fresh : length l.self.fresh.items ≡ length l.initial.self.fresh.items;
  given : (shapes : Shapes) (b : TimedBody) (f : Flow) → IsAt shapes b l.work f l.initial.self → words_in l.initial.self.memories ≡ f.memories
      → record {
        at : l.number < length l.work.actions.items → phase_at b.interval (map (λ (a : Action). a.start) l.work.actions.items) l.number ≡ l.initial.self.moment.phase;
        given : (k : ℕ) → k < l.number → GivesAt shapes b f l.self.fresh.items k;
      };
}

abbrev pub decreases-loop-number : goal.decreases-loop-number
decreases-loop-number l = length l.work.actions.items - l.number
