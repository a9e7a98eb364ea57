use Rattle.std.proofs.Common.{take}
use Rattle.aig_graph.specs.Making.{gates_of}
use Rattle.rtl_core.specs.Netlist.{netlist_of}
use Rattle.aig_blast.specs.Literals.{IsBlasted}
use Rattle.aig_blast.proofs.wires.add_wires.Given as goal

abbrev pub invariant-loop-k : goal.invariant-loop-k
invariant-loop-k l = IsBlasted (netlist_of l.design) (take l.k (netlist_of l.design).wires) (gates_of l.graph) l.literals
