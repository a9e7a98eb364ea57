use Rattle.aig_graph.specs.Making.{gates_of}
use Rattle.aig_graph.specs.Words.{Writes}
use Rattle.aig_graph.proofs.memory.written.Given as goal

abbrev pub invariant-loop-k : goal.invariant-loop-k
invariant-loop-k l = Writes (gates_of l.fn.graph) (gates_of l.graph) l.words l.write l.k l.after.items
