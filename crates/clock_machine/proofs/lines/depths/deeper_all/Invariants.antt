use Rattle.std.proofs.Common.{◌≡◌, ◌≤◌, ◌<◌, ℕ, slice_get, Some}
use Rattle.clock_machine.specs.declared.lines.program.Read.{Read}
use Rattle.clock_machine.specs.Lines.Reads.{IsCovered}
use Rattle.clock_machine.proofs.lines.depths.deeper_all.Given as goal

abbrev pub invariant-loop-read : goal.invariant-loop-read
invariant-loop-read l = (l.initial.depth ≤ l.depth) × ((k : ℕ) (x : Read) → slice_get l.reads k ≡ Some x → k < l.read-index → IsCovered l.depth x)
