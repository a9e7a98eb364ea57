use Rattle.std.proofs.Common.{◌≡◌, ℕ, ◌-◌, ◌<◌, ◌≤◌, length, true}
use Rattle.std.specs.Prelude.{slice_index, not, ◌==◌}
use Rattle.verilog_syntax.proofs.lexer.line_length.Given as goal

abbrev pub invariant-loop-n : goal.invariant-loop-n
invariant-loop-n l = (l.n ≤ length l.bytes) × ((i : ℕ) → i < l.n → not (slice_index l.bytes i == 10) ≡ true)

abbrev pub decreases-loop-n : goal.decreases-loop-n
decreases-loop-n l = length l.bytes - l.n
