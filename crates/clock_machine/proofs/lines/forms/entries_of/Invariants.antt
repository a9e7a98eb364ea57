use Rattle.std.proofs.Common.{◌≡◌, ◌-◌, ◌<◌, ℕ, length, get_or, drop, None}
use Rattle.clock_machine.specs.Lines.Reads.{entry_in}
use Rattle.clock_machine.proofs.lines.forms.entries_of.Given as goal

abbrev pub invariant-loop-done : goal.invariant-loop-done
invariant-loop-done l = (length l.entries.items ≡ l.count) × ((k : ℕ) → k < l.count → get_or l.entries.items k None ≡ entry_in (drop (length l.outs - l.done) l.outs) k)
