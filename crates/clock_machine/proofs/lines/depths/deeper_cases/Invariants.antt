use Rattle.std.proofs.Common.{◌≡◌, ◌≤◌, ◌<◌, ℕ, slice_get, Some}
use Rattle.clock_machine.specs.declared.lines.program.Case.{Case}
use Rattle.clock_machine.specs.Lines.Reads.{IsCovered}
use Rattle.clock_machine.proofs.lines.depths.deeper_cases.Given as goal

abbrev pub invariant-loop-case : goal.invariant-loop-case
invariant-loop-case l = (l.initial.depth ≤ l.depth) × ((k : ℕ) (x : Case) → slice_get l.cases k ≡ Some x → k < l.case-index → IsCovered l.depth x.test)
