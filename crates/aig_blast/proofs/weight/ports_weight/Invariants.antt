use Rattle.aig_blast.proofs.Sizes.{ArePortsSoFar}
use Rattle.aig_blast.proofs.weight.ports_weight.Given as goal

abbrev pub invariant-loop-k : goal.invariant-loop-k
invariant-loop-k l = ArePortsSoFar l.mems l.k l.weight
