use Rattle.aig_blast.proofs.Fresh.{AreFresh}
use Rattle.aig_blast.proofs.given.fresh_words.Given as goal

abbrev pub invariant-loop-k : goal.invariant-loop-k
invariant-loop-k l = AreFresh l.first l.widths l.k l.next l.words.items
