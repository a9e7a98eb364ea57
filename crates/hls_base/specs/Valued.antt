-- Values, or behaviour that is undefined.
use Rattle.std.specs.Prelude.{ℕ}
use Rattle.hls_base.specs.declared.place.Place.{Place}
use Rattle.hls_base.specs.declared.refusal.UbRule.{UbRule}
use Rattle.hls_base.specs.Steps.{Ran, fails}

-- a value, or behaviour that is undefined by this rule and at this place
pub data Valued (A : Type 0) : Type 0 where
  is : (value : A) → Valued A
  faulty : (rule : UbRule) (at : Place) → Valued A

abbrev pub and_then : {A B : Type 0} → Valued A → (A → Valued B) → Valued B
and_then (is x) next = next x
and_then (faulty rule at) next = faulty rule at

-- the part of a run that goes on with a value
abbrev pub valued : {S A B : Type 0} → Valued A → (A → S → ℕ → Ran S B) → S → ℕ → Ran S B
valued (is x) next s n = next x s n
valued (faulty rule at) next s n = fails rule at
