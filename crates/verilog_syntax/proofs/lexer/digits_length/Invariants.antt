use Rattle.std.proofs.Common.{◌≡◌, ℕ, ◌-◌, ◌<◌, ◌≤◌, length, true}
use Rattle.std.specs.Prelude.{slice_index}
use Rattle.verilog_syntax.specs.Characters.{is_digit}
use Rattle.verilog_syntax.proofs.lexer.digits_length.Given as goal

abbrev pub invariant-loop-n : goal.invariant-loop-n
invariant-loop-n l = (l.n ≤ length l.bytes) × ((i : ℕ) → i < l.n → is_digit (slice_index l.bytes i) ≡ true)

abbrev pub decreases-loop-n : goal.decreases-loop-n
decreases-loop-n l = length l.bytes - l.n
