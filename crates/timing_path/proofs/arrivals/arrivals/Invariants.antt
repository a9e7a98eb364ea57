use Rattle.rtl_core.specs.Netlist.{netlist_of}
use Rattle.timing_path.proofs.Arriving.{AreFirst}
use Rattle.timing_path.proofs.arrivals.arrivals.Given as goal

abbrev pub invariant-loop-wire : goal.invariant-loop-wire
invariant-loop-wire l = AreFirst (netlist_of l.design) l.times.items l.wire-index
