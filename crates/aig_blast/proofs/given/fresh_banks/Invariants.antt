use Rattle.aig_blast.proofs.Fresh.{AreBanksSoFar}
use Rattle.aig_blast.proofs.given.fresh_banks.Given as goal

abbrev pub invariant-loop-k : goal.invariant-loop-k
invariant-loop-k l = AreBanksSoFar l.first l.mems l.k l.next l.banks.items
