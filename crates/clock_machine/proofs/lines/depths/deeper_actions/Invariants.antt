use Rattle.std.proofs.Common.{◌≡◌, ◌≤◌, ◌<◌, ℕ, slice_get, Some}
use Rattle.clock_machine.specs.declared.lines.program.Action.{Action}
use Rattle.clock_machine.specs.Lines.Reads.{CoversAction}
use Rattle.clock_machine.proofs.lines.depths.deeper_actions.Given as goal

abbrev pub invariant-loop-action : goal.invariant-loop-action
invariant-loop-action l = (l.initial.depth ≤ l.depth) × ((k : ℕ) (x : Action) → slice_get l.actions k ≡ Some x → k < l.action-index → CoversAction l.depth x)
