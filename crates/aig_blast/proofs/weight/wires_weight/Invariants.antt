use Rattle.rtl_core.specs.declared.design.Wire.{Wire}
use Rattle.rtl_core.specs.Netlist.{netlist_of}
use Rattle.aig_blast.specs.Weight.{wire_weight}
use Rattle.aig_blast.proofs.Sizes.{IsSumSoFar}
use Rattle.aig_blast.proofs.weight.wires_weight.Given as goal

abbrev pub invariant-loop-k : goal.invariant-loop-k
invariant-loop-k l = IsSumSoFar Wire (wire_weight (netlist_of l.design)) 4194304 l.design.wires.items l.k l.weight
