-- Reads that go no further back than this, and lists that are gone through.
use Rattle.std.proofs.Common.{◌≡◌, ℕ, zero, suc, ◌+◌, ◌<◌, ◌≤◌, inl, inr, List, [], ◌∷◌, get_or, slice_get, Option, Some, None, refl, subst, arith}
use Rattle.std.proofs.lemmas.Bool.{cases_lt}
use Rattle.std.proofs.lemmas.Option.{get_or_from_slice_get}
use Rattle.clock_machine.specs.declared.lines.program.Action.{Action}
use Rattle.clock_machine.specs.declared.lines.program.Assignment.{Assignment}
use Rattle.clock_machine.specs.declared.lines.program.Case.{Case}
use Rattle.clock_machine.specs.declared.lines.program.Read.{Read}
use Rattle.clock_machine.specs.declared.lines.program.Read.TheVariants as read
use Rattle.clock_machine.specs.declared.lines.program.Way.{Way}
use Rattle.clock_machine.specs.declared.lines.program.Way.TheVariants as way
use Rattle.clock_machine.specs.Lines.Reads.{Each, EachIf, IsCovered, CoversAction, CoversWay}

-- ---- lists

pub each_from : {A : Type 0} (P : A → Type 0) (xs : List A) → ((k : ℕ) (x : A) → slice_get xs k ≡ Some x → P x) → Each P xs
each_from P [] h = tt
each_from P (x ∷ xs) h = (h 0 x refl, each_from P xs (λ k y is. h (suc k) y is))

pub each_at : {A : Type 0} (P : A → Type 0) (xs : List A) → Each P xs → (k : ℕ) (x : A) → slice_get xs k ≡ Some x → P x
each_at P [] h k x is = absurd (cc)
each_at P (y ∷ ys) h zero x is = subst P (let z : y ≡ x = cc in z) h.0
each_at P (y ∷ ys) h (suc k) x is = each_at P ys h.1 k x is

-- what holds of the elements before this one, and of this one
pub one_more : {A : Type 0} (P : A → Type 0) (xs : List A) (i : ℕ) (d : A) → ((k : ℕ) (x : A) → slice_get xs k ≡ Some x → k < i → P x) → P (get_or xs i d) → (k : ℕ) (x : A) → slice_get xs k ≡ Some x → k < i + 1 → P x
one_more P xs i d before this k x is lt = elim (cases_lt k i) [
  | inl less ↦ before k x is less
  | inr more ↦
      let same : k ≡ i = omega arith in
      subst P (subst (λ n. get_or xs n d ≡ x) same (get_or_from_slice_get xs k x d is)) this
]

-- ---- depths

pub covered_further : (d e : ℕ) (x : Read) → d ≤ e → IsCovered d x → IsCovered e x
covered_further d e (read.Constant word) le h = tt
covered_further d e (read.Variable variable) le h = tt
covered_further d e (read.Value number back) le h = omega (arith, le, h)

pub covered_further_if : (d e : ℕ) (x : Option Read) → d ≤ e → EachIf (IsCovered d) x → EachIf (IsCovered e) x
covered_further_if d e None le h = tt
covered_further_if d e (Some x) le h = covered_further d e x le h

pub covered_further_all : (d e : ℕ) (xs : List Read) → d ≤ e → Each (IsCovered d) xs → Each (IsCovered e) xs
covered_further_all d e [] le h = tt
covered_further_all d e (x ∷ xs) le h = (covered_further d e x le h.0, covered_further_all d e xs le h.1)

pub action_further : (d e : ℕ) (a : Action) → d ≤ e → CoversAction d a → CoversAction e a
action_further d e a le h = (covered_further_all d e a.args.items le h.0, covered_further_if d e a.guard le h.1, omega (arith, le, h.2))

pub assignments_further : (d e : ℕ) (xs : List Assignment) → d ≤ e → Each (λ (x : Assignment). IsCovered d x.value) xs → Each (λ (x : Assignment). IsCovered e x.value) xs
assignments_further d e [] le h = tt
assignments_further d e (x ∷ xs) le h = (covered_further d e x.value le h.0, assignments_further d e xs le h.1)

pub cases_further : (d e : ℕ) (xs : List Case) → d ≤ e → Each (λ (x : Case). IsCovered d x.test) xs → Each (λ (x : Case). IsCovered e x.test) xs
cases_further d e [] le h = tt
cases_further d e (x ∷ xs) le h = (covered_further d e x.test le h.0, cases_further d e xs le h.1)

pub way_further : (d e : ℕ) (w : Way) → d ≤ e → CoversWay d w → CoversWay e w
way_further d e (way.Choose cases other) le h = cases_further d e cases.items le h
way_further d e (way.Return value) le h = covered_further_if d e value le h
