use Rattle.aig_graph.specs.Making.{gates_of}
use Rattle.rtl_core.specs.Netlist.{netlist_of}
use Rattle.aig_blast.specs.Literals.{Shows}
use Rattle.aig_blast.proofs.Banks.{memories_so_far}
use Rattle.aig_blast.proofs.memories.memory_latches.Given as goal

abbrev pub invariant-loop-k : goal.invariant-loop-k
invariant-loop-k l = Shows (gates_of l.fn.graph) (gates_of l.graph) l.latches.items (memories_so_far (netlist_of l.design) l.literals l.k)
