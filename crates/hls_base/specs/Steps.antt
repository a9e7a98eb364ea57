-- What comes of a part of a run, and parts one after another, over any store.
use Rattle.std.specs.Prelude.{ℕ, zero, suc, Bool, true, false, List, [], ◌∷◌, ◌++◌}
use Rattle.hls_base.specs.declared.place.Place.{Place}
use Rattle.hls_base.specs.declared.point.Point.{Point}
use Rattle.hls_base.specs.declared.refusal.UbRule.{UbRule}

-- It ends with a value, a store and the number of points that may still be passed; or its behaviour is undefined, by this rule and at this place; or it waits before a point, since it may pass no more.
pub data Outcome (S A : Type 0) : Type 0 where
  went : (value : A) (store : S) (left : ℕ) → Outcome S A
  undefined : (rule : UbRule) (at : Place) → Outcome S A
  waiting : Outcome S A

-- what comes of it, and the points that it passes
pub record Ran (S A : Type 0) : Type 0 where
  pub trace : List Point
  pub outcome : Outcome S A

abbrev pub ran : {S A : Type 0} → List Point → Outcome S A → Ran S A
ran trace outcome = record { trace = trace; outcome = outcome }

abbrev pub goes : {S A : Type 0} → A → S → ℕ → Ran S A
goes value s n = ran [] (went value s n)

abbrev pub fails : {S A : Type 0} → UbRule → Place → Ran S A
fails rule at = ran [] (undefined rule at)

abbrev pub waits : {S A : Type 0} → Ran S A
waits = ran [] waiting

-- the part `next` after this one, where this one ends
abbrev pub after : {S A B : Type 0} → Outcome S A → (A → S → ℕ → Ran S B) → Ran S B
after (went value s n) next = next value s n
after (undefined rule at) next = fails rule at
after waiting next = waits

abbrev pub then_ : {S A B : Type 0} → Ran S A → (A → S → ℕ → Ran S B) → Ran S B
then_ r next = ran (r.trace ++ (after r.outcome next).trace) (after r.outcome next).outcome

-- a point is passed, where the run may pass one more
abbrev pub pass : {S : Type 0} → Point → S → ℕ → Ran S (Unit {0})
pass p s zero = waits
pass p s (suc n) = ran (p ∷ []) (went tt s n)

abbrev pub pass_if : {S : Type 0} → Bool → Point → S → ℕ → Ran S (Unit {0})
pass_if true p s n = pass p s n
pass_if false p s n = goes tt s n

-- a part that is reached by a point
abbrev pub reached : {S A : Type 0} → Point → (S → ℕ → Ran S A) → S → ℕ → Ran S A
reached p part s n = then_ (pass p s n) (λ u s1 n1. part s1 n1)
