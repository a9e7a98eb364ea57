use Rattle.aig_graph.specs.Making.{gates_of}
use Rattle.aig_graph.specs.Words.{Picks}
use Rattle.aig_graph.proofs.select.pick_word.Given as goal

abbrev pub invariant-loop-i : goal.invariant-loop-i
invariant-loop-i l = Picks (gates_of l.fn.graph) (gates_of l.graph) l.test l.xs l.ys l.i l.bits.items
