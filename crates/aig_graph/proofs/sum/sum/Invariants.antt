use Rattle.aig_graph.specs.Making.{gates_of}
use Rattle.aig_graph.specs.Words.{Sums}
use Rattle.aig_graph.proofs.sum.sum.Given as goal

abbrev pub invariant-loop-i : goal.invariant-loop-i
invariant-loop-i l = Sums (gates_of l.fn.graph) (gates_of l.graph) l.xs l.ys l.carry l.carried l.i l.bits.items
