-- When one run is another one without some of its points.
use Rattle.std.specs.Prelude.{◌≡◌, ℕ, ◌+◌, Bool, List, length}
use Rattle.std.specs.List.{filter}
use Rattle.hls_base.specs.declared.point.Point.{Point}
use Rattle.hls_base.specs.Steps.{Ran, ran, went, waiting}
use Rattle.pass_runs.specs.ConvertRuns.Kept.{Begins}
use Rattle.pass_runs.specs.LowerRuns.Following.{IsUndefined}

-- Two runs, each by the number of points that it may pass, of which the second passes those points of the first that are kept.
pub record IsRunOf {S T A B : Type 0} (kept : Point → Bool) (shows : A → S → B → T → Type 0) (first : ℕ → Ran S A) (second : ℕ → Ran T B) : Type 0 where
  -- As far as the first one comes, the second one comes.
  pub comes : (n : ℕ) → (m : ℕ) × Begins (filter kept (first n).trace) (second m).trace
  -- Where the first one ends, the second one ends, with a value and a store that show the first one's.
  pub ends : (n left : ℕ) (trace : List Point) (v : A) (s : S) → first n ≡ ran trace (went v s left)
      → (w : B) × (t : T) × shows v s w t × ((k : ℕ) → second (length (filter kept trace) + k) ≡ ran (filter kept trace) (went w t k))
  -- Where the first one goes on for ever, so does the second one.
  pub goes_on : ((n : ℕ) → (first n).outcome ≡ waiting) → (n : ℕ) → (second n).outcome ≡ waiting
  -- The second one is undefined only where the first one is.
  pub faults : (n : ℕ) → IsUndefined (second n).outcome → (m : ℕ) × IsUndefined (first m).outcome
