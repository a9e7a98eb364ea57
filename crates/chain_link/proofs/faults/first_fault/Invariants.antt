use Rattle.std.proofs.Common.{◌+◌, None, map, drop}
use Rattle.hls_base.specs.declared.refusal.Refusal.{Refusal}
use Rattle.rtl_core.specs.Netlist.{netlist_of}
use Rattle.chain_link.specs.Faults.{AreStages, IsFirstFault}
use Rattle.chain_link.proofs.faults.first_fault.Given as goal

abbrev pub invariant-loop-k : goal.invariant-loop-k
invariant-loop-k l = record {
  found : (r : Refusal) → IsFirstFault (l.k + 1) l.before (map netlist_of (drop l.k l.stages)) r → IsFirstFault 1 None (map netlist_of l.stages) r;
  none : AreStages l.before (map netlist_of (drop l.k l.stages)) → AreStages None (map netlist_of l.stages);
}
