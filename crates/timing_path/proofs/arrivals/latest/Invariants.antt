use Rattle.std.proofs.Common.{take}
use Rattle.timing_path.specs.Arrivals.{IsLatest}
use Rattle.timing_path.proofs.arrivals.latest.Given as goal

abbrev pub invariant-loop-time : goal.invariant-loop-time
invariant-loop-time l = IsLatest (take l.time-index l.times) l.latest
