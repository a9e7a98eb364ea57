-- Parts behind one another, and the first one that weighs too much.
use Rattle.std.proofs.Common.{◌≡◌, ◌+◌, ◌<◌, List, [], ◌++◌, refl, subst, ◌∙◌, arith}
use Rattle.std.proofs.lemmas.Grind.{common_steps}
use Rattle.hls_base.specs.declared.refusal.Refusal.{Refusal}
use Rattle.piece_making.specs.Making.{State, Part, gives, behind, then_}
use Rattle.piece_making.specs.Stocks.{Stock, state_of, IsMade, IsTooHeavy}

appended_nothing : {A : Type 0} (xs : List A) → xs ≡ xs ++ []
appended_nothing xs = grind (arith, common_steps)

pub nothing_made : {A : Type 0} (s : Stock) (value : A) → IsMade s s value (gives value (state_of s))
nothing_made s value = record { value = refl; out = appended_nothing s.out; labels = appended_nothing s.labels; rest = omega arith; state = refl; at = refl }

appended_twice : {A : Type 0} (new mid old xs ys : List A) → new ≡ mid ++ ys → mid ≡ old ++ xs → new ≡ old ++ (xs ++ ys)
appended_twice new mid old xs ys e f = grind (arith, common_steps)

both_made : {A B : Type 0} (old mid new : Stock) (v : A) (w : B) (first : Part A) (second : Part B)
    → IsMade old mid v first → IsMade mid new w second → IsMade old new w (behind first second)
both_made old mid new v w first second h k = record {
  value = k.value;
  out = appended_twice new.out mid.out old.out first.pieces second.pieces k.out h.out;
  labels = appended_twice new.labels mid.labels old.labels first.labels second.labels k.labels h.labels;
  rest = omega (arith, h.rest, k.rest);
  state = k.state;
  at = k.at ∙ h.at;
}

-- a part behind one that is made
pub made_behind : {A B : Type 0} (old mid new : Stock) (v : A) (w : B) (first : Part A) (next : A → State → Part B)
    → IsMade old mid v first → IsMade mid new w (next v (state_of mid)) → IsMade old new w (then_ first next)
unfolding then_
made_behind {A} {B} old mid new v w first next h k =
    let k1 : IsMade mid new w (next first.value (state_of mid)) = subst (λ (x : A). IsMade mid new w (next x (state_of mid))) h.value k in
    let k2 : IsMade mid new w (next first.value first.state) = subst (λ (s : State). IsMade mid new w (next first.value s)) h.state k1 in
    both_made old mid new v w first (next first.value first.state) h k2

-- the first part weighs too much
pub heavy_at_once : {A B : Type 0} (old : Stock) (r : Refusal) (first : Part A) (next : A → State → Part B)
    → IsTooHeavy old r first → IsTooHeavy old r (then_ first next)
unfolding then_
heavy_at_once old r first next h = record { heavy = omega (arith, h.heavy); rule = h.rule; at = h.at }

heavy_second : {A B : Type 0} (old mid : Stock) (r : Refusal) (v : A) (first : Part A) (second : Part B)
    → IsMade old mid v first → IsTooHeavy mid r second → IsTooHeavy old r (behind first second)
heavy_second old mid r v first second h k = record { heavy = omega (arith, h.rest, k.heavy); rule = k.rule; at = k.at ∙ h.at }

-- a part behind one that is made weighs too much
pub heavy_behind : {A B : Type 0} (old mid : Stock) (r : Refusal) (v : A) (first : Part A) (next : A → State → Part B)
    → IsMade old mid v first → IsTooHeavy mid r (next v (state_of mid)) → IsTooHeavy old r (then_ first next)
unfolding then_
heavy_behind {A} {B} old mid r v first next h k =
    let k1 : IsTooHeavy mid r (next first.value (state_of mid)) = subst (λ (x : A). IsTooHeavy mid r (next x (state_of mid))) h.value k in
    let k2 : IsTooHeavy mid r (next first.value first.state) = subst (λ (s : State). IsTooHeavy mid r (next first.value s)) h.state k1 in
    heavy_second old mid r v first (next first.value first.state) h k2

-- a part behind nothing
pub made_behind_nothing : {A B : Type 0} (old mid new : Stock) (x y : A) (z : B) (next : A → State → Part B)
    → IsMade old mid y (gives x (state_of old)) → IsMade mid new z (next y (state_of mid)) → IsMade old new z (next x (state_of old))
made_behind_nothing {A} {B} old mid new x y z next h k =
    let k1 : IsMade mid new z (next x (state_of mid)) = subst (λ (v : A). IsMade mid new z (next v (state_of mid))) h.value k in
    let k2 : IsMade mid new z (next x (state_of old)) = subst (λ (s : State). IsMade mid new z (next x s)) h.state k1 in
    let none : mid.rest + 0 ≡ old.rest = h.rest in
    record {
      value = k2.value;
      out = appended_twice new.out mid.out old.out [] (next x (state_of old)).pieces k2.out h.out;
      labels = appended_twice new.labels mid.labels old.labels [] (next x (state_of old)).labels k2.labels h.labels;
      rest = omega (arith, none, k2.rest);
      state = k2.state;
      at = k2.at ∙ h.at;
    }

pub heavy_behind_nothing : {A B : Type 0} (old mid : Stock) (r : Refusal) (x y : A) (next : A → State → Part B)
    → IsMade old mid y (gives x (state_of old)) → IsTooHeavy mid r (next y (state_of mid)) → IsTooHeavy old r (next x (state_of old))
heavy_behind_nothing {A} {B} old mid r x y next h k =
    let k1 : IsTooHeavy mid r (next x (state_of mid)) = subst (λ (v : A). IsTooHeavy mid r (next v (state_of mid))) h.value k in
    let k2 : IsTooHeavy mid r (next x (state_of old)) = subst (λ (s : State). IsTooHeavy mid r (next x s)) h.state k1 in
    let none : mid.rest + 0 ≡ old.rest = h.rest in
    record { heavy = omega (arith, none, k2.heavy); rule = k2.rule; at = k2.at ∙ h.at }

-- nothing does not weigh too much
pub nothing_heavy : {A B : Type 0} (old : Stock) (r : Refusal) (x : A) (part : Part B) → IsTooHeavy old r (gives x (state_of old)) → IsTooHeavy old r part
nothing_heavy old r x part h = let e : old.rest < 0 = h.heavy in record { heavy = omega (arith, e); rule = h.rule; at = h.at }
