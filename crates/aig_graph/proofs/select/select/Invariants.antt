use Rattle.std.proofs.Common.{ℕ}
use Rattle.std.specs.List.{All}
use Rattle.aig_graph.specs.Making.{gates_of}
use Rattle.aig_graph.specs.Words.{Narrows, HasLength}
use Rattle.aig_graph.proofs.select.select.Given as goal

abbrev pub invariant-loop-i : goal.invariant-loop-i
invariant-loop-i l = (width : ℕ) → All (HasLength width) l.column → Narrows (gates_of l.fn.graph) (gates_of l.graph) l.column l.address width l.i l.left.items
