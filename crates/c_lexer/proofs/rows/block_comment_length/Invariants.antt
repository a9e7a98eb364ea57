use Rattle.std.proofs.Common.{◌≡◌, ℕ, ◌-◌, ◌<◌, ◌≤◌, length, false}
use Rattle.c_lexer.specs.Runs.{closes}
use Rattle.c_lexer.proofs.rows.block_comment_length.Given as goal

abbrev pub invariant-loop-k : goal.invariant-loop-k
invariant-loop-k l = (2 ≤ l.k) × ((j : ℕ) → 2 ≤ j → j < l.k → closes l.bytes j ≡ false)

abbrev pub decreases-loop-k : goal.decreases-loop-k
decreases-loop-k l = length l.bytes - l.k
