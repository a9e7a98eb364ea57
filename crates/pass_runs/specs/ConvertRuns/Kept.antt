-- When one run is another one without some of its points.
use Rattle.std.specs.Prelude.{◌≡◌, ℕ, ◌+◌, Bool, List, ◌++◌, length}
use Rattle.std.specs.List.{filter}
use Rattle.hls_base.specs.declared.point.Point.{Point}
use Rattle.hls_base.specs.Steps.{Outcome, went, undefined, waiting, Ran, ran}

abbrev pub Begins : List Point → List Point → Type 0
Begins xs ys = (more : List Point) × (ys ≡ xs ++ more)

-- What comes of a part of a run behind these points, comes of the other part, whatever points it may pass beyond those that are related to these: it ends with the same value and store, of which something is known, or is undefined by the same rule and at the same place. As far as the one that waits has come, the other one comes.
abbrev pub Matches : {S A : Type 0} → (List Point → List Point → Type 0) → (A → S → Type 0) → List Point → Outcome S A → (ℕ → Ran S A) → Type 0
Matches R known trace (went v s n) r = known v s × (others : List Point) × R trace others × ((k : ℕ) → r (length others + k) ≡ ran others (went v s k))
Matches R known trace (undefined rule at) r = (others : List Point) × R trace others × ((k : ℕ) → r (length others + k) ≡ ran others (undefined rule at))
Matches R known trace waiting r = (others : List Point) × R trace others × ((k : ℕ) → Begins others (r (length others + k)).trace)

abbrev pub IsKept : (Point → Bool) → List Point → List Point → Type 0
IsKept kept trace others = filter kept trace ≡ others

abbrev pub IsKeptOf : (Point → Bool) → List Point → List Point → Type 0
IsKeptOf kept trace others = filter kept others ≡ trace

-- Two runs, each by the number of points that it may pass, of which the second passes those points of the first that are kept. What comes of the first comes of the second, and what comes of the second comes of the first; so one ends, is undefined or goes on for ever where the other one does.
pub record IsSameRun {S A : Type 0} (kept : Point → Bool) (known : A → S → Type 0) (first second : ℕ → Ran S A) : Type 0 where
  pub forth : (n : ℕ) → Matches (IsKept kept) known (first n).trace (first n).outcome second
  pub back : (n : ℕ) → Matches (IsKeptOf kept) known (second n).trace (second n).outcome first
