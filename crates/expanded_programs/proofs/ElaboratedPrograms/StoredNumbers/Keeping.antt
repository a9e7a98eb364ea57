-- Objects as they are later on in a run, and parts that leave them so.
use Rattle.std.proofs.Common.{◌≡◌, ℕ, zero, suc, ◌∙◌, sym, refl, ap, subst, List, [], ◌∷◌, ◌++◌, length, take, set, All, ℤ, pos, Bool, true, false, Option, Some, None, if◌then◌else◌}
use Rattle.std.specs.Prelude.{slice_get, replicate}
use Rattle.std.proofs.lemmas.List.Elements.{All-nil, All-cons, All-head, All-tail, All-set}
use Rattle.hls_base.specs.ArrayAddress.{element_count}
use Rattle.hls_base.specs.declared.place.Place.{Place}
use Rattle.hls_base.specs.declared.point.Point.{Point}
use Rattle.hls_base.specs.declared.point.PointKind.{PointKind}
use Rattle.hls_base.specs.declared.refusal.UbRule.{UbRule}
use Rattle.c_token.specs.declared.ctype.CType.{CType}
use Rattle.c_value.specs.Values.{IsOf, convert}
use Rattle.c_meaning.specs.Store.{Object, fresh, State, Environment, kind_in, with_element, changed, forgotten, kind_of_object, write_element}
use Rattle.c_meaning.specs.Steps.{Outcome, went, undefined, waiting, Ran, goes, fails, waits, then_, pass_point, pass}
use Rattle.c_meaning.specs.Expression.{pass_if}
use Rattle.c_meaning.proofs.Ranges.{converted_in, zero_in}
use Rattle.expanded_programs.specs.ElaboratedPrograms.StoredNumbers.Numbers.{IsNumber, HasNumbers}

-- ---- objects

-- as many elements as its lengths say
abbrev pub IsWhole : Object → Type 0
IsWhole o = length o.elements ≡ element_count o.lengths

pub record Follows (o o' : Object) : Type 0 where
  pub kind : o'.kind ≡ o.kind
  pub lengths : o'.lengths ≡ o.lengths
  pub whole : IsWhole o → IsWhole o'
  pub numbers : HasNumbers o → HasNumbers o'

pub follows_same : (o : Object) → Follows o o
follows_same o = record { kind = refl; lengths = refl; whole = λ h. h; numbers = λ h. h }

follows_both : (o p q : Object) → Follows o p → Follows p q → Follows o q
follows_both o p q h g = record {
  kind = g.kind ∙ h.kind;
  lengths = g.lengths ∙ h.lengths;
  whole = λ w. g.whole (h.whole w);
  numbers = λ w. g.numbers (h.numbers w);
}

-- each object stands where it stood
abbrev pub AllFollow : List Object → List Object → Type 0
AllFollow [] [] = Unit {0}
AllFollow [] (p ∷ ps) = ⊥
AllFollow (o ∷ os) [] = ⊥
AllFollow (o ∷ os) (p ∷ ps) = Follows o p × AllFollow os ps

pub all_same : (os : List Object) → AllFollow os os
all_same [] = tt
all_same (o ∷ os) = (follows_same o, all_same os)

pub all_both : (os ps qs : List Object) → AllFollow os ps → AllFollow ps qs → AllFollow os qs
all_both [] [] [] h g = tt
all_both [] [] (q ∷ qs) h g = absurd g
all_both [] (p ∷ ps) qs h g = absurd h
all_both (o ∷ os) [] qs h g = absurd h
all_both (o ∷ os) (p ∷ ps) [] h g = absurd g
all_both (o ∷ os) (p ∷ ps) (q ∷ qs) h g = (follows_both o p q h.0 g.0, all_both os ps qs h.1 g.1)

pub all_numbers : (os ps : List Object) → AllFollow os ps → All HasNumbers os → All HasNumbers ps
all_numbers [] [] h all = all
all_numbers [] (p ∷ ps) h all = absurd h
all_numbers (o ∷ os) [] h all = absurd h
all_numbers (o ∷ os) (p ∷ ps) h all = All-cons HasNumbers p ps (h.0.numbers (All-head HasNumbers o os all)) (all_numbers os ps h.1 (All-tail HasNumbers o os all))

-- with others behind them, of which the end of a block takes leave
pub first_follow : (os more ps : List Object) → AllFollow (os ++ more) ps → AllFollow os (take (length os) ps)
first_follow [] more ps h = tt
first_follow (o ∷ os) more [] h = absurd h
first_follow (o ∷ os) more (p ∷ ps) h = (h.0, first_follow os more ps h.1)

-- ---- writes

set_follows : (os : List Object) (i : ℕ) (o p : Object) → slice_get os i ≡ Some o → Follows o p → AllFollow os (set os i p)
set_follows [] i o p at h = tt
set_follows (q ∷ os) zero o p at h =
    let same : q ≡ o = cc in
    (subst (λ x. Follows x p) (sym same) h, all_same os)
set_follows (q ∷ os) (suc i) o p at h = (follows_same q, set_follows os i o p at h)

changed_follows : (f : Object → Object) (os : List Object) (i : ℕ) (found : Option Object) → slice_get os i ≡ found → ((o : Object) → found ≡ Some o → Follows o (f o)) → AllFollow os (changed f os i found)
changed_follows f os i None at h = all_same os
changed_follows f os i (Some o) at h = set_follows os i o (f o) at (h o refl)

length_set : {X : Type 0} (xs : List X) (i : ℕ) (x : X) → length (set xs i x) ≡ length xs
length_set [] i x = refl
length_set (y ∷ xs) zero x = refl
length_set (y ∷ xs) (suc i) x = ap suc (length_set xs i x)

element_follows : (o : Object) (element : ℕ) (n : ℤ) → IsOf o.kind n → Follows o (with_element element n o)
element_follows o element n h = record {
  kind = refl;
  lengths = refl;
  whole = λ w. length_set o.elements element (Some n) ∙ w;
  numbers = λ all. All-set (IsNumber o.kind) o.elements element (Some n) h all;
}

pub written_follows : (os : List Object) (object element : ℕ) (n : ℤ) → IsOf (kind_in (slice_get os object)) n → AllFollow os (changed (with_element element n) os object (slice_get os object))
written_follows os object element n h =
    changed_follows (with_element element n) os object (slice_get os object) refl (λ (o : Object) at. element_follows o element n (subst (λ k. IsOf k n) (ap kind_in at) h))

length_replicate : {X : Type 0} (n : ℕ) (x : X) → length (replicate n x) ≡ n
length_replicate zero x = refl
length_replicate (suc n) x = ap suc (length_replicate n x)

none_written : (kind : CType) (n : ℕ) → All (IsNumber kind) (replicate n None)
none_written kind zero = All-nil (IsNumber kind)
none_written kind (suc n) = All-cons (IsNumber kind) None (replicate n None) tt (none_written kind n)

pub fresh_numbers : (kind : CType) (lengths : List ℕ) → HasNumbers (fresh kind lengths)
fresh_numbers kind lengths = none_written kind (element_count lengths)

pub forgotten_follows : (os : List Object) (object : ℕ) → AllFollow os (changed forgotten os object (slice_get os object))
forgotten_follows os object =
    changed_follows forgotten os object (slice_get os object) refl (λ (o : Object) at. record {
      kind = refl;
      lengths = refl;
      whole = λ w. length_replicate (element_count o.lengths) None;
      numbers = λ all. fresh_numbers o.kind o.lengths;
    })

-- ---- parts of a run

abbrev pub Follow : {A : Type 0} → List Object → Outcome A → Type 0
Follow os (went v s) = AllFollow os s.objects
Follow os (undefined rule at) = Unit {0}
Follow os waiting = Unit {0}

-- where it ends, its objects are those of this state
pub record Ends {A : Type 0} (s : State) (r : Ran A) : Type 0 where
  pub follow : Follow s.objects r.outcome

pub goes_ends : {A : Type 0} (v : A) (s : State) → Ends s (goes v s)
goes_ends v s = record { follow = all_same s.objects }

pub changed_ends : {A : Type 0} (v : A) (s t : State) → AllFollow s.objects t.objects → Ends s (goes v t)
changed_ends v s t h = record { follow = h }

pub fails_ends : {A : Type 0} (rule : UbRule) (at : Place) (s : State) → Ends {A = A} s (fails rule at)
fails_ends rule at s = record { follow = tt }

pub waits_ends : {A : Type 0} (s : State) → Ends {A = A} s waits
waits_ends s = record { follow = tt }

pub behind : {B : Type 0} (os ps : List Object) (o : Outcome B) → AllFollow os ps → Follow ps o → Follow os o
behind os ps (went v s) h g = all_both os ps s.objects h g
behind os ps (undefined rule at) h g = tt
behind os ps waiting h g = tt

then_at : {A B : Type 0} (os ps : List Object) (trace : List Point) (o : Outcome A) (f : A → State → Ran B) → Follow ps o → ((v : A) (t : State) → AllFollow ps t.objects → Follow os (f v t).outcome)
    → Follow os (then_ (record { trace = trace; outcome = o }) f).outcome
then_at os ps trace (went v s) f h g = g v s h
then_at os ps trace (undefined rule at) f h g = tt
then_at os ps trace waiting f h g = tt

-- the second part ends with objects that follow others than the first part begins with
pub then_follow : {A B : Type 0} (os ps : List Object) (r : Ran A) (f : A → State → Ran B) → Follow ps r.outcome → ((v : A) (t : State) → AllFollow ps t.objects → Follow os (f v t).outcome) → Follow os (then_ r f).outcome
then_follow os ps r f h g = then_at os ps r.trace r.outcome f h g

pub then_ends : {A B : Type 0} (s : State) (r : Ran A) (f : A → State → Ran B) → Ends s r → ((v : A) (t : State) → Ends t (f v t)) → Ends s (then_ r f)
then_ends s r f h g = record { follow = then_follow s.objects s.objects r f h.follow (λ v t k. behind s.objects t.objects (f v t).outcome k (g v t).follow) }

point_ends : (p : Point) (n : ℕ) (s : State) → Ends s (pass_point p n s)
point_ends p zero s = record { follow = tt }
point_ends p (suc n) s = record { follow = all_same s.objects }

pub pass_ends : (kind : PointKind) (at : Place) (env : Environment) (s : State) → Ends s (pass kind at env s)
pass_ends kind at env s = point_ends (record { path = env.path; at = at; kind = kind }) s.left s

pub pass_if_ends : (b : Bool) (kind : PointKind) (at : Place) (env : Environment) (s : State) → Ends s (pass_if b kind at env s)
pass_if_ends true kind at env s = pass_ends kind at env s
pass_if_ends false kind at env s = record { follow = all_same s.objects }

pub if_ends : {A : Type 0} (b : Bool) (s : State) (x y : Ran A) → Ends s x → Ends s y → Ends s (if b then x else y)
if_ends true s x y h g = h
if_ends false s x y h g = g

-- a number that is converted to the object's type
pub stored_ends : {A : Type 0} (v : A) (object element : ℕ) (n : ℤ) (s : State) → Ends s (goes v (write_element s object element (convert (kind_of_object s object) n)))
stored_ends v object element n s = record { follow = written_follows s.objects object element (convert (kind_of_object s object) n) (converted_in (kind_of_object s object) n) }

pub zero_follows : (object element : ℕ) (s : State) → AllFollow s.objects (write_element s object element (pos 0)).objects
zero_follows object element s = written_follows s.objects object element (pos 0) (zero_in (kind_of_object s object))
