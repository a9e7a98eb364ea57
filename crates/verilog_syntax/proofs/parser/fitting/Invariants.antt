use Rattle.std.proofs.Common.{ℕ, ◌+◌, ◌-◌, length, drop}
use Rattle.verilog_syntax.specs.Parsing.{Common, tokens_in}
use Rattle.verilog_syntax.proofs.parser.fitting.Given as goal

abbrev pub invariant-loop-n : goal.invariant-loop-n
invariant-loop-n l = (n : ℕ) → Common (drop l.n l.classes) (drop l.n (tokens_in l.tokens)) n → Common l.classes (tokens_in l.tokens) (l.n + n)

abbrev pub decreases-loop-n : goal.decreases-loop-n
decreases-loop-n l = length l.classes - l.n
