use Rattle.aig_graph.specs.Making.{gates_of}
use Rattle.rtl_core.specs.Netlist.{netlist_of}
use Rattle.aig_blast.specs.Literals.{Shows}
use Rattle.aig_blast.proofs.NextBits.{outputs_so_far}
use Rattle.aig_blast.proofs.latches.output_literals.Given as goal

abbrev pub invariant-loop-k : goal.invariant-loop-k
invariant-loop-k l = Shows (gates_of l.graph) (gates_of l.graph) l.shown.items (outputs_so_far (netlist_of l.design) l.literals l.k)
