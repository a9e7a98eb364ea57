use Rattle.cosim_levels.proofs.PinsLemmas.Waits.{IsWaiting}
use Rattle.rtl_core.specs.Interface.{ready_of}
use Rattle.cosim_levels.proofs.pins.drive.first_ready.Given as goal

abbrev pub invariant-loop-k : goal.invariant-loop-k
invariant-loop-k l = IsWaiting ready_of l.initial.driver l.driver l.k
