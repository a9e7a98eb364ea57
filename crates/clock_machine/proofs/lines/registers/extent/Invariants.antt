use Rattle.std.proofs.Common.{◌≡◌, ◌+◌, ◌-◌, ◌^◌, ◌<◌, ◌≤◌, ℕ, min, slice_get, Some}
use Rattle.clock_machine.specs.declared.lines.program.Line.{Line}
use Rattle.clock_machine.proofs.lines.registers.extent.Given as goal

abbrev pub invariant-loop-line : goal.invariant-loop-line
invariant-loop-line l = (k : ℕ) (line : Line) → slice_get l.lines k ≡ Some line → k < l.line-index → min (line.first + line.length) (2 ^ 64 - 1) ≤ l.most
