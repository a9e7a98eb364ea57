use Rattle.std.proofs.Common.{◌≡◌, take, length}
use Rattle.stage_runs.proofs.comparison.are_same.Given as goal

abbrev pub invariant-loop-k : goal.invariant-loop-k
invariant-loop-k l = (length l.arrays ≡ length l.others) × (take l.k l.arrays ≡ take l.k l.others)
