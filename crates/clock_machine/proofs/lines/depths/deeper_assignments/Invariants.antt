use Rattle.std.proofs.Common.{◌≡◌, ◌≤◌, ◌<◌, ℕ, slice_get, Some}
use Rattle.clock_machine.specs.declared.lines.program.Assignment.{Assignment}
use Rattle.clock_machine.specs.Lines.Reads.{IsCovered}
use Rattle.clock_machine.proofs.lines.depths.deeper_assignments.Given as goal

abbrev pub invariant-loop-assignment : goal.invariant-loop-assignment
invariant-loop-assignment l = (l.initial.depth ≤ l.depth) × ((k : ℕ) (x : Assignment) → slice_get l.assignments k ≡ Some x → k < l.assignment-index → IsCovered l.depth x.value)
