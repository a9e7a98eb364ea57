use Rattle.std.proofs.Common.{ℕ, take}
use Rattle.aig_graph.specs.Making.{gates_of}
use Rattle.aig_blast.specs.Ports.{CanWrite, WritesAll}
use Rattle.aig_blast.proofs.memories.bank_after.Given as goal

abbrev pub invariant-loop-i : goal.invariant-loop-i
invariant-loop-i l = (n : ℕ) → (depth : ℕ) → CanWrite (gates_of l.fn.graph) l.literals l.ports l.words n depth → WritesAll (gates_of l.fn.graph) (gates_of l.graph) l.literals (take l.i l.ports) l.words n l.after.items
