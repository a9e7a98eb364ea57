use Rattle.std.proofs.Common.{ℕ, ◌≡◌, ◌++◌, length}
use Rattle.aig_text.specs.GraphText.{numeral}
use Rattle.aig_text.specs.Reading.{Saturates}
use Rattle.aig_text.proofs.cursor.Cursor.any_digits.Given as goal

abbrev pub invariant-loop-digit : goal.invariant-loop-digit
invariant-loop-digit l = (n : ℕ) × Saturates l.value n × (l.fn.self ≡ numeral n ++ l.self)

abbrev pub decreases-loop-digit : goal.decreases-loop-digit
decreases-loop-digit l = length l.self
