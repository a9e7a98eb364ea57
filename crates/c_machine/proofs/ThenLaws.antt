-- Laws of parts of a run one after another.
use Rattle.std.proofs.Common.{◌≡◌, ◌++◌, List, [], refl, ap, append_assoc}
use Rattle.std.proofs.lemmas.List.{append-nil}
use Rattle.hls_base.specs.declared.place.Place.{Place}
use Rattle.hls_base.specs.declared.point.Point.{Point}
use Rattle.hls_base.specs.declared.refusal.UbRule.{UbRule}
use Rattle.c_meaning.specs.Store.{State}
use Rattle.c_meaning.specs.Steps.{Outcome, went, undefined, waiting, Ran, goes, fails, waits, after, then_}

abbrev ran : {A : Type 0} → List Point → Outcome A → Ran A
ran trace outcome = record { trace = trace; outcome = outcome }

assoc_at : {A B C : Type 0} (trace : List Point) (o : Outcome A) (f : A → State → Ran B) (g : B → State → Ran C)
    → then_ (then_ (ran trace o) f) g ≡ then_ (ran trace o) (λ v s. then_ (f v s) g)
assoc_at {A} {B} {C} trace (went v s) f g = ap (λ t. ran t (after (f v s).outcome g).outcome) (append_assoc trace (f v s).trace (after (f v s).outcome g).trace)
assoc_at {A} {B} {C} trace (undefined rule at) f g = ap (λ t. ran t (undefined rule at)) (append_assoc trace [] [])
assoc_at {A} {B} {C} trace waiting f g = ap (λ t. ran t waiting) (append_assoc trace [] [])

-- A part, and then one part and another, is the first two and then the last.
pub then_assoc : {A B C : Type 0} (r : Ran A) (f : A → State → Ran B) (g : B → State → Ran C) → then_ (then_ r f) g ≡ then_ r (λ v s. then_ (f v s) g)
then_assoc r f g = assoc_at r.trace r.outcome f g

same_at : {A B : Type 0} (trace : List Point) (o : Outcome A) (f g : A → State → Ran B) → ((v : A) (s : State) → f v s ≡ g v s) → then_ (ran trace o) f ≡ then_ (ran trace o) g
same_at {A} {B} trace (went v s) f g h = ap (λ (r : Ran B). ran (trace ++ r.trace) r.outcome) (h v s)
same_at {A} {B} trace (undefined rule at) f g h = refl
same_at {A} {B} trace waiting f g h = refl

-- What comes after a part depends on its values alone.
pub then_same : {A B : Type 0} (r : Ran A) (f g : A → State → Ran B) → ((v : A) (s : State) → f v s ≡ g v s) → then_ r f ≡ then_ r g
then_same r f g h = same_at r.trace r.outcome f g h

-- A part that passes no point, before and behind another.
pub goes_then : {A B : Type 0} (v : A) (s : State) (f : A → State → Ran B) → then_ (goes v s) f ≡ f v s
goes_then v s f = refl

pub fails_then : {A B : Type 0} (rule : UbRule) (at : Place) (f : A → State → Ran B) → then_ (fails rule at) f ≡ fails rule at
fails_then rule at f = refl

pub waits_then : {A B : Type 0} (f : A → State → Ran B) → then_ waits f ≡ waits
waits_then f = refl

ends_at : {A : Type 0} (trace : List Point) (o : Outcome A) → then_ (ran trace o) goes ≡ ran trace o
ends_at {A} trace (went v s) = ap (λ t. ran t (went v s)) (append-nil trace)
ends_at {A} trace (undefined rule at) = ap (λ t. ran t (undefined rule at)) (append-nil trace)
ends_at {A} trace waiting = ap (λ t. ran t waiting) (append-nil trace)

pub then_goes : {A : Type 0} (r : Ran A) → then_ r goes ≡ r
then_goes r = ends_at r.trace r.outcome
