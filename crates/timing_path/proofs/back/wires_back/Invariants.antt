use Rattle.rtl_core.specs.Netlist.{netlist_of}
use Rattle.timing_path.proofs.Going.{IsGoing, steps_left}
use Rattle.timing_path.proofs.back.wires_back.Given as goal

abbrev pub invariant-loop-next : goal.invariant-loop-next
invariant-loop-next l = IsGoing (netlist_of l.design) l.times l.delay l.wires.items l.next

abbrev pub decreases-loop-next : goal.decreases-loop-next
decreases-loop-next l = steps_left l.next
