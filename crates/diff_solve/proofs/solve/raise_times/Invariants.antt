use Rattle.std.proofs.Common.{◌≡◌, ℕ, ◌<◌, ◌≤◌, length, slice_index, MatchOption}
use Rattle.diff_solve.specs.Passes.{IsRunning, HoldsAcross}
use Rattle.diff_solve.proofs.solve.raise_times.Given as goal

abbrev pub invariant-loop-position : goal.invariant-loop-position
invariant-loop-position l = record {
  running : IsRunning (length l.initial.times) l.constraints l.limit l.times l.entered;
  across : HoldsAcross l.constraints l.position l.initial.times l.times;
  rises : (v : ℕ) → slice_index l.initial.times v ≤ slice_index l.times v;
  raised : MatchOption l.last (l.times ≡ l.initial.times) (λ v. slice_index l.initial.times v < slice_index l.times v);
}
