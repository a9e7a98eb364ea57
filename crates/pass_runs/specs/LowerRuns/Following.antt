-- When one run comes along those points of another one that are kept.
use Rattle.std.specs.Prelude.{◌≡◌, ℕ, ◌+◌, ◌*◌, ◌<◌, ◌≤◌, Bool, List, ◌++◌, length}
use Rattle.std.specs.List.{filter}
use Rattle.hls_base.specs.declared.point.Point.{Point}
use Rattle.hls_base.specs.Steps.{Outcome, went, undefined, waiting, Ran, ran, goes}

-- the same behind these points
abbrev pub beyond : {S A : Type 0} → List Point → Ran S A → Ran S A
beyond trace r = ran (trace ++ r.trace) r.outcome

-- A run, given by the number of points that it may pass, comes by these points to another one: with fewer it waits, and with k more it goes on as the other one with k.
pub record Comes {T B : Type 0} (r : ℕ → Ran T B) (trace : List Point) (rest : ℕ → Ran T B) : Type 0 where
  pub along : (k : ℕ) → r (length trace + k) ≡ beyond trace (rest k)
  pub short : (k : ℕ) → k < length trace → (r k).outcome ≡ waiting

-- what is known where a run ends; where it is undefined nothing is asked
abbrev pub Known : {S A : Type 0} → (A → S → Type 0) → Outcome S A → Type 0
Known known (went v s n) = known v s
Known known (undefined rule at) = Unit {0}
Known known waiting = Unit {0}

-- It comes along the points that are kept of what came of a part of another run, and where that part ended, to a rest of which this is known.
abbrev pub Follows : {S T A B : Type 0} → (Point → Bool) → (A → S → (ℕ → Ran T B) → Type 0) → List Point → Outcome S A → (ℕ → Ran T B) → Type 0
Follows {T = T} {B = B} kept known trace o r = (rest : ℕ → Ran T B) × Comes r (filter kept trace) rest × Known (λ v s. known v s rest) o

-- What came of a part of a run that might pass n points: it has passed those that are not left, and all where it waits. Before it `start` points may be dropped, with each that is kept `most` more, and where it ends `rest` are still to spare.
abbrev pub IsMeasured : {S A : Type 0} → (Point → Bool) → ℕ → ℕ → ℕ → ℕ → List Point → Outcome S A → Type 0
IsMeasured kept most n start rest trace (went v s m) = (m + length trace ≡ n) × (length trace + rest ≤ start + most * length (filter kept trace))
IsMeasured kept most n start rest trace (undefined rule at) = (length trace ≤ n) × (length trace ≤ start + most * length (filter kept trace))
IsMeasured kept most n start rest trace waiting = (length trace ≡ n) × (length trace ≤ start + most * length (filter kept trace))

abbrev pub IsUndefined : {S A : Type 0} → Outcome S A → Type 0
IsUndefined (went v s n) = ⊥
IsUndefined (undefined rule at) = Unit {0}
IsUndefined waiting = ⊥

-- Two runs, each by the number of points that it may pass, of which the second passes those points of the first that are kept.
pub record IsKeptRun {S T A B : Type 0} (kept : Point → Bool) (shows : A → S → B → T → Type 0) (first : ℕ → Ran S A) (second : ℕ → Ran T B) : Type 0 where
  -- As far as the first one comes, the second one comes.
  pub passes : (n : ℕ) → (rest : ℕ → Ran T B) × Comes second (filter kept (first n).trace) rest
  -- Where the first one ends, the second one ends, with a value and a store that show the first one's.
  pub ends : (n left : ℕ) (trace : List Point) (v : A) (s : S) → first n ≡ ran trace (went v s left) → (w : B) × (t : T) × shows v s w t × Comes second (filter kept trace) (goes w t)
  -- Where the first one goes on for ever, so does the second one.
  pub goes_on : ((n : ℕ) → (first n).outcome ≡ waiting) → (n : ℕ) → (second n).outcome ≡ waiting
  -- The second one is undefined only where the first one is.
  pub faults : (n : ℕ) → IsUndefined (second n).outcome → (m : ℕ) × IsUndefined (first m).outcome
