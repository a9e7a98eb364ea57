-- What comes of a part of a run, and parts one after another.
use Rattle.std.specs.Prelude.{ℕ, zero, suc, List, [], ◌∷◌, ◌++◌}
use Rattle.hls_base.specs.declared.place.Place.{Place}
use Rattle.hls_base.specs.declared.point.Point.{Point}
use Rattle.hls_base.specs.declared.point.PointKind.{PointKind}
use Rattle.hls_base.specs.declared.refusal.UbRule.{UbRule}
use Rattle.c_meaning.specs.Store.{State, Environment}

-- It ends with a value and a state; or its behaviour is undefined, by this rule and at this place; or it waits before a point, since it may pass no more.
pub data Outcome (A : Type 0) : Type 0 where
  went : (value : A) (state : State) → Outcome A
  undefined : (rule : UbRule) (at : Place) → Outcome A
  waiting : Outcome A

-- what comes of it, and the points that it passes
pub record Ran (A : Type 0) : Type 0 where
  pub trace : List Point
  pub outcome : Outcome A

abbrev pub goes : {A : Type 0} → A → State → Ran A
goes value s = record { trace = []; outcome = went value s }

abbrev pub fails : {A : Type 0} → UbRule → Place → Ran A
fails rule at = record { trace = []; outcome = undefined rule at }

abbrev pub waits : {A : Type 0} → Ran A
waits = record { trace = []; outcome = waiting }

-- the part `next` after this one, where this one ends
abbrev pub after : {A B : Type 0} → Outcome A → (A → State → Ran B) → Ran B
after (went value s) next = next value s
after (undefined rule at) next = fails rule at
after waiting next = waits

abbrev pub then_ : {A B : Type 0} → Ran A → (A → State → Ran B) → Ran B
then_ r next = record { trace = r.trace ++ (after r.outcome next).trace; outcome = (after r.outcome next).outcome }

-- a point is passed, where the run may pass one more
abbrev pub pass_point : Point → ℕ → State → Ran (Unit {0})
pass_point p zero s = waits
pass_point p (suc left) s = record { trace = p ∷ []; outcome = went tt (record s { left = left }) }

abbrev pub pass : PointKind → Place → Environment → State → Ran (Unit {0})
pass kind at env s = pass_point (record { path = env.path; at = at; kind = kind }) s.left s
