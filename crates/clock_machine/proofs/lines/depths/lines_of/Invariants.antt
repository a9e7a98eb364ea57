use Rattle.std.proofs.Common.{◌≡◌, ◌*◌, ◌-◌, ◌^◌, ℕ, length, slice_get, Some, min}
use Rattle.clock_machine.specs.declared.lines.program.Line.{Line}
use Rattle.clock_machine.specs.Lines.Forms.{IsLineOf}
use Rattle.clock_machine.proofs.lines.depths.lines_of.Given as goal

abbrev pub invariant-loop : goal.invariant-loop
invariant-loop l = (length l.lines.items ≡ l.counter) × (l.first ≡ min (l.counter * l.size) (2 ^ 64 - 1)) × ((k : ℕ) (line : Line) → slice_get l.lines.items k ≡ Some line → IsLineOf l.size k line)
