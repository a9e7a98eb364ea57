use Rattle.cosim_levels.proofs.PinsLemmas.Accesses.{AreWritten}
use Rattle.cosim_levels.proofs.pins.drive.write_arrays.Given as goal

abbrev pub invariant-loop-k : goal.invariant-loop-k
invariant-loop-k l = AreWritten l.initial.driver l.driver l.k l.arrays l.given
