use Rattle.std.proofs.Common.{◌-◌, ◌≤◌, length}
use Rattle.diff_solve.specs.Passes.{IsRunning}
use Rattle.diff_solve.proofs.Rounds.{Dominates}
use Rattle.diff_solve.proofs.solve.settle.Given as goal

abbrev pub invariant-rounds : goal.invariant-rounds
invariant-rounds l = record {
  running : IsRunning (length l.initial.times) l.constraints l.limit l.times l.entered;
  dominates : Dominates l.constraints l.passes l.times;
  passes_left : l.passes ≤ length l.initial.times;
}

abbrev pub decreases-rounds : goal.decreases-rounds
decreases-rounds l = length l.initial.times - l.passes
