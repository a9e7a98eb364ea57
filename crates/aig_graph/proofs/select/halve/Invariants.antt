use Rattle.std.proofs.Common.{ℕ}
use Rattle.std.specs.List.{All}
use Rattle.aig_graph.specs.Making.{gates_of}
use Rattle.aig_graph.specs.Words.{Halves, HasLength}
use Rattle.aig_graph.proofs.select.halve.Given as goal

abbrev pub invariant-loop-i : goal.invariant-loop-i
invariant-loop-i l = (width : ℕ) → All (HasLength width) l.column → Halves (gates_of l.fn.graph) (gates_of l.graph) l.test l.column width l.i l.words.items
