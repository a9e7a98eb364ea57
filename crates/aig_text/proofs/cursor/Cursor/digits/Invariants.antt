use Rattle.std.proofs.Common.{◌≡◌, ◌≤◌, ◌++◌, length}
use Rattle.aig_text.specs.GraphText.{numeral}
use Rattle.aig_text.proofs.cursor.Cursor.digits.Given as goal

abbrev pub invariant-loop-digit : goal.invariant-loop-digit
invariant-loop-digit l = (l.fn.self ≡ numeral l.value ++ l.self) × (l.value ≤ l.high)

abbrev pub decreases-loop-digit : goal.decreases-loop-digit
decreases-loop-digit l = length l.self
