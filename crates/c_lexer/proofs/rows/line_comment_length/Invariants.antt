use Rattle.std.proofs.Common.{◌≡◌, ℕ, ◌-◌, ◌<◌, ◌≤◌, length, true}
use Rattle.c_token.specs.Spelling.{in_line_comment}
use Rattle.c_lexer.proofs.rows.line_comment_length.Given as goal

abbrev pub invariant-loop-n : goal.invariant-loop-n
invariant-loop-n l = (l.n ≤ length l.bytes) × ((i : ℕ) → i < l.n → in_line_comment l.bytes i ≡ true)

abbrev pub decreases-loop-n : goal.decreases-loop-n
decreases-loop-n l = length l.bytes - l.n
