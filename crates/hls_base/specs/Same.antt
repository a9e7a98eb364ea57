-- When one part of a run does what another one does, over another store.
use Rattle.std.specs.Prelude.{◌≡◌, ℕ, ◌≤◌, Bool, true, List}
use Rattle.hls_base.specs.declared.point.Point.{Point}
use Rattle.hls_base.specs.Steps.{Outcome, went, undefined, waiting, Ran, ran}

-- Where the first one ends, the second one ends behind the same points, with as many that may still be passed, which are at most k, and values and stores that are related; where the first one waits, so does the second. A strict relation says the like of undefined behaviour; any other says nothing about it.
abbrev pub Follows : {S T A B : Type 0} → Bool → ℕ → (A → S → B → T → Type 0) → List Point → Outcome S A → Ran T B → Type 0
Follows {S} {T} {A} {B} strict k R trace (went v s n) r = (w : B) × (t : T) × (r ≡ ran trace (went w t n)) × (n ≤ k) × R v s w t
Follows strict k R trace (undefined rule at) r = strict ≡ true → r ≡ ran trace (undefined rule at)
Follows strict k R trace waiting r = r ≡ ran trace waiting

abbrev pub Same : {S T A B : Type 0} → Bool → ℕ → (A → S → B → T → Type 0) → Ran S A → Ran T B → Type 0
Same strict k R q r = Follows strict k R q.trace q.outcome r
