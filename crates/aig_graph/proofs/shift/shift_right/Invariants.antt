use Rattle.aig_graph.specs.Making.{gates_of}
use Rattle.aig_graph.specs.Words.{ShiftsRight, IsStep}
use Rattle.aig_graph.proofs.shift.shift_right.Given as goal

abbrev pub invariant-loop-i : goal.invariant-loop-i
invariant-loop-i l = ShiftsRight (gates_of l.fn.graph) (gates_of l.graph) l.xs l.counts l.i l.word.items × IsStep l.i l.step
