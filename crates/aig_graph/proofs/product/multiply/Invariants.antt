use Rattle.aig_graph.specs.Making.{gates_of}
use Rattle.aig_graph.specs.Words.{Multiplies}
use Rattle.aig_graph.proofs.product.multiply.Given as goal

abbrev pub invariant-loop-i : goal.invariant-loop-i
invariant-loop-i l = Multiplies (gates_of l.fn.graph) (gates_of l.graph) l.xs l.ys l.i l.product.items
