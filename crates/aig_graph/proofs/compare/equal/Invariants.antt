use Rattle.aig_graph.specs.Making.{gates_of}
use Rattle.aig_graph.specs.Words.{IsEqualSoFar}
use Rattle.aig_graph.proofs.compare.equal.Given as goal

abbrev pub invariant-loop-i : goal.invariant-loop-i
invariant-loop-i l = IsEqualSoFar (gates_of l.fn.graph) (gates_of l.graph) l.xs l.ys l.i l.all
