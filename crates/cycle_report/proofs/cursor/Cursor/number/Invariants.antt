use Rattle.std.proofs.Common.{◌≡◌, ◌≤◌, ◌++◌, length}
use Rattle.std.specs.Fmt.{decimal}
use Rattle.cycle_report.proofs.cursor.Cursor.number.Given as goal

abbrev pub invariant-loop-digit : goal.invariant-loop-digit
invariant-loop-digit l = (l.fn.self ≡ decimal l.value ++ l.self) × (l.low ≤ l.value) × (l.value ≤ l.high)

abbrev pub decreases-loop-digit : goal.decreases-loop-digit
decreases-loop-digit l = length l.self
