-- Operations that pass no point do the same however many points are left.
use Rattle.std.proofs.Common.{◌≡◌, ℕ, ◌==◌, ◌∙◌, sym, refl, ap, List, [], length, ℤ, pos, Option, Some, None, Bool, true, false, if◌then◌else◌}
use Rattle.hls_base.specs.declared.place.Place.{Place}
use Rattle.c_token.specs.declared.ctype.CType.{CType}
use Rattle.c_tree.specs.declared.operator.Binary.{Binary}
use Rattle.c_tree.specs.declared.operator.Binary.TheVariants as b
use Rattle.c_value.specs.Values.{int_type}
use Rattle.c_value.specs.Operators as o
use Rattle.c_value.specs.Operators.{Computed, binary_kind, binary_value}
use Rattle.c_meaning.specs.declared.value.Value.{Value}
use Rattle.c_meaning.specs.Store.{State, element_place, lengths_of_object, kind_of_object, read_element}
use Rattle.c_meaning.specs.Steps.{Outcome, went, undefined, waiting, Ran, after, then_, goes}
use Rattle.c_meaning.specs.Expression.{value, computed, operated, read_found, read_place, read_object, store_place, store_object, assigned, bumped}
use Rattle.c_machine.specs.Frames.{Configuration}
use Rattle.c_machine.specs.Rest.{rest_of, setting, with_value}
use Rattle.c_machine.specs.Moves.{concluded}

-- the same state with so many points left
abbrev pub with_left : ℕ → State → State
with_left left s = record s { left = left }

abbrev pub reset : {A : Type 0} → ℕ → Outcome A → Outcome A
reset left (went v s) = went v (with_left left s)
reset left (undefined rule at) = undefined rule at
reset left waiting = waiting

abbrev pub quiet : {A : Type 0} → ℕ → Ran A → Ran A
quiet left r = record { trace = []; outcome = reset left r.outcome }

quiet_at : {A B : Type 0} (left : ℕ) (o : Outcome A) (f : A → State → Ran B) → ((v : A) (s : State) → f v (with_left left s) ≡ quiet left (f v s))
    → then_ (record { trace = []; outcome = reset left o }) f ≡ record { trace = []; outcome = reset left (after o f).outcome }
quiet_at {A} {B} left (went v s) f h = h v s
quiet_at {A} {B} left (undefined rule at) f h = refl
quiet_at {A} {B} left waiting f h = refl

pub then-quiet : {A B : Type 0} (left : ℕ) (r r0 : Ran A) (f : A → State → Ran B) → r ≡ quiet left r0 → ((v : A) (s : State) → f v (with_left left s) ≡ quiet left (f v s))
    → then_ r f ≡ quiet left (then_ r0 f)
then-quiet {A} {B} left r r0 f e h = ap (λ (x : Ran A). then_ x f) e ∙ quiet_at left r0.outcome f h

pub computed-quiet : (left : ℕ) (kind : CType) (n : Computed) (at : Place) (s : State) → computed kind n at (with_left left s) ≡ quiet left (computed kind n at s)
computed-quiet left kind (o.defined n) at s = refl
computed-quiet left kind (o.undefined rule) at s = refl

pub operated-quiet : (left : ℕ) (op : Binary) (x y : Value) (at : Place) (s : State) → operated op x y at (with_left left s) ≡ quiet left (operated op x y at s)
operated-quiet left op x y at s = computed-quiet left (binary_kind op x.kind y.kind) (binary_value op x.kind x.number y.kind y.number) at s

read_found-quiet : (left : ℕ) (n : Option ℤ) (kind : CType) (scalar : Bool) (at : Place) (s : State) → read_found n kind scalar at (with_left left s) ≡ quiet left (read_found n kind scalar at s)
read_found-quiet left (Some n) kind scalar at s = refl
read_found-quiet left None kind true at s = refl
read_found-quiet left None kind false at s = refl

read_place-quiet : (left : ℕ) (place : Option ℕ) (object : ℕ) (scalar : Bool) (at : Place) (s : State)
    → read_place place object scalar at (with_left left s) ≡ quiet left (read_place place object scalar at s)
read_place-quiet left None object scalar at s = refl
read_place-quiet left (Some element) object scalar at s = read_found-quiet left (read_element s object element) (kind_of_object s object) scalar at s

pub read_object-quiet : (left object : ℕ) (subscripts : List ℤ) (at : Place) (s : State)
    → read_object object subscripts at (with_left left s) ≡ quiet left (read_object object subscripts at s)
read_object-quiet left object subscripts at s = read_place-quiet left (element_place (lengths_of_object s object) subscripts) object (length subscripts == 0) at s

store_place-quiet : (left : ℕ) (place : Option ℕ) (object : ℕ) (n : ℤ) (at : Place) (s : State) → store_place place object n at (with_left left s) ≡ quiet left (store_place place object n at s)
store_place-quiet left None object n at s = refl
store_place-quiet left (Some element) object n at s = refl

store_object-quiet : (left object : ℕ) (subscripts : List ℤ) (n : ℤ) (at : Place) (s : State)
    → store_object object subscripts n at (with_left left s) ≡ quiet left (store_object object subscripts n at s)
store_object-quiet left object subscripts n at s = store_place-quiet left (element_place (lengths_of_object s object) subscripts) object n at s

pub assigned-quiet : (left : ℕ) (op : Option Binary) (object : ℕ) (subscripts : List ℤ) (place : Place) (v : Value) (at : Place) (s : State)
    → assigned op object subscripts place v at (with_left left s) ≡ quiet left (assigned op object subscripts place v at s)
assigned-quiet left None object subscripts place v at s = store_object-quiet left object subscripts v.number place s
assigned-quiet left (Some op) object subscripts place v at s =
    then-quiet left (read_object object subscripts place (with_left left s)) (read_object object subscripts place s)
    (λ x s1. then_ (operated op x v at s1) (λ r s2. store_object object subscripts r.number place s2))
    (read_object-quiet left object subscripts place s)
    (λ x s1. then-quiet left (operated op x v at (with_left left s1)) (operated op x v at s1) (λ r s2. store_object object subscripts r.number place s2)
    (operated-quiet left op x v at s1) (λ r s2. store_object-quiet left object subscripts r.number place s2))

pub bumped-quiet : (left : ℕ) (up post : Bool) (object : ℕ) (subscripts : List ℤ) (place at : Place) (s : State)
    → bumped up post object subscripts place at (with_left left s) ≡ quiet left (bumped up post object subscripts place at s)
bumped-quiet left up post object subscripts place at s =
    then-quiet left (read_object object subscripts place (with_left left s)) (read_object object subscripts place s)
    (λ x s1. then_ (operated (if up then b.Add else b.Sub) x (value int_type (pos 1)) at s1)
    (λ r s2. then_ (store_object object subscripts r.number place s2) (λ v s3. goes (if post then x else v) s3)))
    (read_object-quiet left object subscripts place s)
    (λ x s1. then-quiet left (operated (if up then b.Add else b.Sub) x (value int_type (pos 1)) at (with_left left s1)) (operated (if up then b.Add else b.Sub) x (value int_type (pos 1)) at s1)
    (λ r s2. then_ (store_object object subscripts r.number place s2) (λ v s3. goes (if post then x else v) s3))
    (operated-quiet left (if up then b.Add else b.Sub) x (value int_type (pos 1)) at s1)
    (λ r s2. then-quiet left (store_object object subscripts r.number place (with_left left s2)) (store_object object subscripts r.number place s2) (λ v s3. goes (if post then x else v) s3)
    (store_object-quiet left object subscripts r.number place s2) (λ v s3. refl)))

concluded_at : (left : ℕ) (out : Outcome Value) (m : Configuration)
    → rest_of left (concluded out m) ≡ then_ (record { trace = []; outcome = reset left out }) (with_value (setting left m) m.stack m.held)
concluded_at left (went v s) m = refl
concluded_at left (undefined rule at) m = refl
concluded_at left waiting m = refl

-- what comes of such an operation goes to what waits for it
pub concluded-rest : (left : ℕ) (r r0 : Ran Value) (m : Configuration) → r ≡ quiet left r0
    → rest_of left (concluded r0.outcome m) ≡ then_ r (with_value (setting left m) m.stack m.held)
concluded-rest left r r0 m e = concluded_at left r0.outcome m ∙ ap (λ (x : Ran Value). then_ x (with_value (setting left m) m.stack m.held)) (sym e)
