-- Lemmas on members of lists.
use Rattle.std.proofs.Common.{◌≡◌, ◌≢◌, ℕ, zero, suc, ◌+◌, ◌<◌, ◌≤◌, ◌⊎◌, Bool, true, false, cond, List, [], ◌∷◌, ◌++◌, map, filter, flat_map, find, count_by, Some, inl, inr, sym, ap, ◌∙◌, subst, arith}
use Rattle.std.specs.Prelude.{slice_get}
use Rattle.std.specs.List.{range_with_len}
use Rattle.std.specs.List.Sorted.{IsPermutation}
use Rattle.std.proofs.lemmas.Bool.{cases_Bool, cases_eq, cases_lt, cond-true, cond-false, true≢false}
use Rattle.std.proofs.lemmas.List.Sorted.{Contains-permutation}
use Rattle.std.proofs.lemmas.List.Sums.{length-filter}
use Rattle.std.proofs.lemmas.Option.{slice_get-get_or, slice_get_within, get_or_from_slice_get}
use Rattle.reg_binding.specs.Pools.{Has}
use Rattle.reg_binding.proofs.Members.{none, first_or_later, at_first, at_later}
use Rattle.clock_runs.proofs.Lists.{some_same}

-- ---- lists put together

pub in_left : {A : Type 0} (xs ys : List A) (x : A) → Has xs x → Has (xs ++ ys) x
in_left [] ys x h = absurd (none x h)
in_left (y ∷ xs) ys x h = elim (first_or_later y xs x h) [
  | inl e ↦ (zero, ap Some (sym e))
  | inr later ↦ at_later y (xs ++ ys) x (in_left xs ys x later)
]

pub in_right : {A : Type 0} (xs ys : List A) (x : A) → Has ys x → Has (xs ++ ys) x
in_right [] ys x h = h
in_right (y ∷ xs) ys x h = at_later y (xs ++ ys) x (in_right xs ys x h)

pub in_either : {A : Type 0} (xs ys : List A) (x : A) → Has (xs ++ ys) x → Has xs x ⊎ Has ys x
in_either [] ys x h = inr h
in_either (y ∷ xs) ys x h = elim (first_or_later y (xs ++ ys) x h) [
  | inl e ↦ inl (zero, ap Some (sym e))
  | inr later ↦ elim (in_either xs ys x later) [ inl l ↦ inl (at_later y xs x l) | inr r ↦ inr r ]
]

pub in_flat : {A B : Type 0} (f : A → List B) (xs : List A) (x : A) (y : B) → Has xs x → Has (f x) y → Has (flat_map f xs) y
in_flat f [] x y h there = absurd (none x h)
in_flat f (a ∷ xs) x y h there = elim (first_or_later a xs x h) [
  | inl e ↦ in_left (f a) (flat_map f xs) y (subst (λ z. Has (f z) y) e there)
  | inr later ↦ in_right (f a) (flat_map f xs) y (in_flat f xs x y later there)
]

pub in_map : {A B : Type 0} (f : A → B) (xs : List A) (x : A) → Has xs x → Has (map f xs) (f x)
in_map f [] x h = absurd (none x h)
in_map f (a ∷ xs) x h = elim (first_or_later a xs x h) [
  | inl e ↦ (zero, ap (λ z. Some (f z)) (sym e))
  | inr later ↦ at_later (f a) (map f xs) (f x) (in_map f xs x later)
]

pub from_map : {A B : Type 0} (f : A → B) (xs : List A) (y : B) → Has (map f xs) y → (x : A) × (Has xs x × (y ≡ f x))
from_map f [] y h = absurd (none y h)
from_map f (a ∷ xs) y h = elim (first_or_later (f a) (map f xs) y h) [
  | inl e ↦ (a, (at_first a xs, e))
  | inr later ↦ (let m = from_map f xs y later in (m.0, (at_later a xs m.0 m.1.0, m.1.1)))
]

-- ---- numbers in a row

pub in_range : (a n k : ℕ) → k < n → Has (range_with_len a n) (a + k)
in_range a zero k lt = absurd (omega arith)
in_range a (suc n) zero lt = (zero, ap Some (let z : a ≡ a + 0 = omega arith in z))
in_range a (suc n) (suc k) lt =
    at_later a (range_with_len (a + 1) n) (a + suc k)
    (subst (λ (m : ℕ). Has (range_with_len (a + 1) n) m) (let z : a + 1 + k ≡ a + suc k = omega arith in z) (in_range (a + 1) n k (omega arith)))

pub from_range : (a n m : ℕ) → Has (range_with_len a n) m → (a ≤ m) × (m < a + n)
from_range a zero m h = absurd (none m h)
from_range a (suc n) m h = elim (first_or_later a (range_with_len (a + 1) n) m h) [
  | inl e ↦ (omega (arith, e), omega (arith, e))
  | inr later ↦ (let f = from_range (a + 1) n m later in (omega (arith, f.0), omega (arith, f.1)))
]

-- ---- those that pass a test

pub in_kept : {A : Type 0} (test : A → Bool) (xs : List A) (x : A) → Has xs x → test x ≡ true → Has (filter test xs) x
in_kept test [] x h passes = absurd (none x h)
in_kept test (a ∷ xs) x h passes =
    elim (first_or_later a xs x h) [
      | inl e ↦ subst (λ l. Has l x) (sym (cond-true _ _ _ (ap test (sym e) ∙ passes))) (zero, ap Some (sym e))
      | inr later ↦ further (test a) (in_kept test xs x later passes)
    ]
  where
    further : (b : Bool) → Has (filter test xs) x → Has (cond b (a ∷ filter test xs) (filter test xs)) x
    further true h = at_later a (filter test xs) x h
    further false h = h

pub from_kept : {A : Type 0} (test : A → Bool) (xs : List A) (x : A) → Has (filter test xs) x → Has xs x
from_kept test [] x h = absurd (none x h)
from_kept test (a ∷ xs) x h = back (test a) (from_kept test xs x) h
  where
    back : (b : Bool) → (Has (filter test xs) x → Has xs x) → Has (cond b (a ∷ filter test xs) (filter test xs)) x → Has (a ∷ xs) x
    back true further h = elim (first_or_later a (filter test xs) x h) [ inl e ↦ (zero, ap Some (sym e)) | inr later ↦ at_later a xs x (further later) ]
    back false further h = at_later a xs x (further h)

-- one that passes is found
pub is_found : {A : Type 0} (test : A → Bool) (xs : List A) (x : A) → Has xs x → test x ≡ true → (y : A) × (find test xs ≡ Some y)
is_found test [] x h passes = absurd (none x h)
is_found test (a ∷ xs) x h passes =
    elim (cases_Bool (test a)) [
      | inl yes_ ↦ (a, cond-true _ _ _ yes_)
      | inr no_ ↦
          elim (first_or_later a xs x h) [
            | inl e ↦ absurd (true≢false (sym passes ∙ (ap test e ∙ no_)))
            | inr later ↦ (let f = is_found test xs x later passes in (f.0, cond-false _ _ _ no_ ∙ f.1))
          ]
    ]

-- ---- how many pass

-- two that differ
pub counts_two : {A : Type 0} (test : A → Bool) (xs : List A) (x y : A) → Has xs x → Has xs y → x ≢ y → test x ≡ true → test y ≡ true → 2 ≤ count_by test xs
counts_two test xs x y h g differ passes passes_too =
    let one = in_kept test xs x h passes in
    let two = in_kept test xs y g passes_too in
    let apart : one.0 ≢ two.0 = λ e. differ (some_same (sym one.1 ∙ (ap (slice_get (filter test xs)) e ∙ two.1))) in
    let below = slice_get_within (filter test xs) one.0 x one.1 in
    let below_too = slice_get_within (filter test xs) two.0 y two.1 in
    let all = length-filter test xs in
    elim (cases_lt one.0 two.0) [
      | inl less ↦ omega (arith, less, below_too, all)
      | inr more ↦ elim (cases_eq one.0 two.0) [ inl e ↦ absurd (apart e) | inr other ↦ omega (arith, more, other, below, all) ]
    ]

-- ---- the same members in another order

pub in_order : {A : Type 0} (xs ys : List A) (x : A) → IsPermutation xs ys → Has xs x → Has ys x
in_order xs ys x same h =
    let c = Contains-permutation xs ys x same (h.0, slice_get_within xs h.0 x h.1, get_or_from_slice_get xs h.0 x x h.1) in
    (c.0, slice_get-get_or ys c.0 x c.1 ∙ ap Some c.2)
