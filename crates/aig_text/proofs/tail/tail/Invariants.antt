use Rattle.std.proofs.Common.{length}
use Rattle.aig_text.proofs.Tails.{Lines}
use Rattle.aig_text.proofs.tail.tail.Given as goal

abbrev pub invariant-symbols : goal.invariant-symbols
invariant-symbols l = Lines l.fn.cursor l.cursor

abbrev pub decreases-symbols : goal.decreases-symbols
decreases-symbols l = length l.cursor
