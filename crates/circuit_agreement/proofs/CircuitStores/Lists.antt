-- Elements of filtered, mapped and joined lists.
use Rattle.std.proofs.Common.{◌≡◌, ℕ, zero, suc, ◌+◌, ◌≤◌, ◌⊎◌, inl, inr, Bool, true, false, List, [], ◌∷◌, ◌++◌, map, Some, refl, sym, ap, ap₂, ◌∙◌, subst, arith}
use Rattle.std.specs.Prelude.{slice_get, ◌||◌, cond, filter, flat_map, fold, max}
use Rattle.std.specs.List.{list_any, enumerate_from}
use Rattle.std.proofs.lemmas.Bool.{cases_Bool, or_from, or_left, or_right, false≢true}
use Rattle.clock_runs.proofs.Lists.{some_same, no_some}

-- the element stands in the list
pub record Has {A : Type 0} (xs : List A) (x : A) : Type 0 where
  pub place : ℕ
  pub there : slice_get xs place ≡ Some x

pub has_first : {A : Type 0} (x : A) (xs : List A) → Has (x ∷ xs) x
has_first x xs = record { place = 0; there = refl }

pub has_next : {A : Type 0} (y : A) (xs : List A) (x : A) → Has xs x → Has (y ∷ xs) x
has_next y xs x h = record { place = suc h.place; there = h.there }

pub has_none : {A : Type 0} (x : A) → Has [] x → ⊥
has_none x h = no_some h.there

pub has_cases : {A : Type 0} (y : A) (xs : List A) (x : A) → Has (y ∷ xs) x → (y ≡ x) ⊎ Has xs x
has_cases y xs x h = at_place h.place h.there
  where
    at_place : (n : ℕ) → slice_get (y ∷ xs) n ≡ Some x → (y ≡ x) ⊎ Has xs x
    at_place zero e = inl (some_same e)
    at_place (suc n) e = inr (record { place = n; there = e })

-- ---- filtered

pub has_kept : {A : Type 0} (test : A → Bool) (xs : List A) (x : A) → Has xs x → test x ≡ true → Has (filter test xs) x
has_kept test [] x h t = absurd (has_none x h)
has_kept test (y ∷ xs) x h t =
    elim (has_cases y xs x h) [
      | inl same ↦ subst (λ l. Has l x) (sym (ap (λ b. cond b (y ∷ filter test xs) (filter test xs)) (ap test same ∙ t))) (subst (λ z. Has (z ∷ filter test xs) x) (sym same) (has_first x (filter test xs)))
      | inr rest ↦ at_first (test y) (has_kept test xs x rest t)
    ]
  where
    at_first : (b : Bool) → Has (filter test xs) x → Has (cond b (y ∷ filter test xs) (filter test xs)) x
    at_first true h = has_next y (filter test xs) x h
    at_first false h = h

pub from_kept : {A : Type 0} (test : A → Bool) (xs : List A) (x : A) → Has (filter test xs) x → Has xs x × (test x ≡ true)
from_kept test [] x h = absurd (has_none x h)
from_kept test (y ∷ xs) x h =
    elim (cases_Bool (test y)) [
      | inl yes_ ↦
          elim (has_cases y (filter test xs) x (subst (λ (l : List _). Has l x) (ap (λ b. cond b (y ∷ filter test xs) (filter test xs)) yes_) h)) [
            | inl same ↦ (subst (λ z. Has (z ∷ xs) x) (sym same) (has_first x xs), ap test (sym same) ∙ yes_)
            | inr rest ↦ let r = from_kept test xs x rest in (has_next y xs x r.0, r.1)
          ]
      | inr no_ ↦
          let r = from_kept test xs x (subst (λ (l : List _). Has l x) (ap (λ b. cond b (y ∷ filter test xs) (filter test xs)) no_) h) in
          (has_next y xs x r.0, r.1)
    ]

-- ---- joined

pub has_left : {A : Type 0} (xs ys : List A) (x : A) → Has xs x → Has (xs ++ ys) x
has_left [] ys x h = absurd (has_none x h)
has_left (y ∷ xs) ys x h =
    elim (has_cases y xs x h) [
      | inl same ↦ subst (λ z. Has (z ∷ (xs ++ ys)) x) (sym same) (has_first x (xs ++ ys))
      | inr rest ↦ has_next y (xs ++ ys) x (has_left xs ys x rest)
    ]

pub has_right : {A : Type 0} (xs ys : List A) (x : A) → Has ys x → Has (xs ++ ys) x
has_right [] ys x h = h
has_right (y ∷ xs) ys x h = has_next y (xs ++ ys) x (has_right xs ys x h)

pub from_both : {A : Type 0} (xs ys : List A) (x : A) → Has (xs ++ ys) x → Has xs x ⊎ Has ys x
from_both [] ys x h = inr h
from_both (y ∷ xs) ys x h =
    elim (has_cases y (xs ++ ys) x h) [
      | inl same ↦ inl (subst (λ z. Has (z ∷ xs) x) (sym same) (has_first x xs))
      | inr rest ↦ elim (from_both xs ys x rest) [ inl l ↦ inl (has_next y xs x l) | inr r ↦ inr r ]
    ]

-- ---- mapped

pub has_mapped : {A B : Type 0} (f : A → B) (xs : List A) (x : A) → Has xs x → Has (map f xs) (f x)
has_mapped f [] x h = absurd (has_none x h)
has_mapped f (y ∷ xs) x h =
    elim (has_cases y xs x h) [
      | inl same ↦ subst (λ z. Has (f z ∷ map f xs) (f x)) (sym same) (has_first (f x) (map f xs))
      | inr rest ↦ has_next (f y) (map f xs) (f x) (has_mapped f xs x rest)
    ]

pub record Mapped {A B : Type 0} (f : A → B) (xs : List A) (y : B) : Type 0 where
  pub from : A
  pub has : Has xs from
  pub is : f from ≡ y

pub from_mapped : {A B : Type 0} (f : A → B) (xs : List A) (y : B) → Has (map f xs) y → Mapped f xs y
from_mapped f [] y h = absurd (has_none y h)
from_mapped f (x ∷ xs) y h =
    elim (has_cases (f x) (map f xs) y h) [
      | inl same ↦ record { from = x; has = has_first x xs; is = same }
      | inr rest ↦ let r = from_mapped f xs y rest in record { from = r.from; has = has_next x xs r.from r.has; is = r.is }
    ]

pub has_flat : {A B : Type 0} (f : A → List B) (xs : List A) (x : A) (y : B) → Has xs x → Has (f x) y → Has (flat_map f xs) y
has_flat f [] x y h g = absurd (has_none x h)
has_flat f (z ∷ xs) x y h g =
    elim (has_cases z xs x h) [
      | inl same ↦ has_left (f z) (flat_map f xs) y (subst (λ w. Has (f w) y) (sym same) g)
      | inr rest ↦ has_right (f z) (flat_map f xs) y (has_flat f xs x y rest g)
    ]

pub record Flat {A B : Type 0} (f : A → List B) (xs : List A) (y : B) : Type 0 where
  pub from : A
  pub has : Has xs from
  pub in_ : Has (f from) y

pub from_flat : {A B : Type 0} (f : A → List B) (xs : List A) (y : B) → Has (flat_map f xs) y → Flat f xs y
from_flat f [] y h = absurd (has_none y h)
from_flat f (x ∷ xs) y h =
    elim (from_both (f x) (flat_map f xs) y h) [
      | inl first ↦ record { from = x; has = has_first x xs; in_ = first }
      | inr rest ↦ let r = from_flat f xs y rest in record { from = r.from; has = has_next x xs r.from r.has; in_ = r.in_ }
    ]

-- ---- numbered

pub has_numbered : {A : Type 0} (k j : ℕ) (xs : List A) (x : A) → slice_get xs j ≡ Some x → Has (enumerate_from k xs) (k + j, x)
has_numbered k j [] x e = absurd (no_some e)
has_numbered k zero (y ∷ xs) x e =
    let here : k ≡ k + 0 = omega arith in
    let same : (k, y) ≡ (k + 0, x) = ap₂ (λ (n : ℕ) (z : _). (n, z)) here (some_same e) in
    subst (λ (z : _). Has (enumerate_from k (y ∷ xs)) z) same (has_first (k, y) (enumerate_from (k + 1) xs))
has_numbered k (suc j) (y ∷ xs) x e =
    let next : k + 1 + j ≡ k + suc j = omega arith in
    has_next (k, y) (enumerate_from (k + 1) xs) (k + suc j, x) (subst (λ (n : ℕ). Has (enumerate_from (k + 1) xs) (n, x)) next (has_numbered (k + 1) j xs x e))

pub record Numbered {A : Type 0} (k : ℕ) (xs : List A) (n : ℕ × A) : Type 0 where
  pub place : ℕ
  pub is : n.0 ≡ k + place
  pub there : slice_get xs place ≡ Some n.1

pub from_numbered : {A : Type 0} (k : ℕ) (xs : List A) (n : ℕ × A) → Has (enumerate_from k xs) n → Numbered k xs n
from_numbered k [] n h = absurd (has_none n h)
from_numbered k (x ∷ xs) n h =
    elim (has_cases (k, x) (enumerate_from (k + 1) xs) n h) [
      | inl same ↦ record { place = 0; is = (let here : k ≡ k + 0 = omega arith in sym (ap (λ (z : _). z.0) same) ∙ here); there = ap (λ (z : _). Some z.1) same }
      | inr rest ↦
          let r = from_numbered (k + 1) xs n rest in
          record { place = suc r.place; is = r.is ∙ (let next : k + 1 + r.place ≡ k + suc r.place = omega arith in next); there = r.there }
    ]

-- ---- tested

pub record Tested {A : Type 0} (test : A → Bool) (xs : List A) : Type 0 where
  pub one : A
  pub has : Has xs one
  pub passes : test one ≡ true

pub some_tested : {A : Type 0} (test : A → Bool) (xs : List A) → list_any test xs ≡ true → Tested test xs
some_tested test [] e = absurd (false≢true e)
some_tested test (x ∷ xs) e =
    elim (cases_Bool (test x)) [
      | inl yes_ ↦ record { one = x; has = has_first x xs; passes = yes_ }
      | inr no_ ↦
          let r = some_tested test xs (sym (ap (λ b. b || list_any test xs) no_) ∙ e) in
          record { one = r.one; has = has_next x xs r.one r.has; passes = r.passes }
    ]

pub any_there : {A : Type 0} (test : A → Bool) (xs : List A) (x : A) → Has xs x → test x ≡ true → list_any test xs ≡ true
any_there test [] x h t = absurd (has_none x h)
any_there test (y ∷ xs) x h t =
    elim (has_cases y xs x h) [
      | inl same ↦ or_left (test y) (list_any test xs) (ap test same ∙ t)
      | inr rest ↦ or_right (test y) (list_any test xs) (any_there test xs x rest t)
    ]

pub none_there : {A : Type 0} (test : A → Bool) (xs : List A) → ((x : A) → Has xs x → test x ≡ false) → list_any test xs ≡ false
none_there test [] h = refl
none_there test (x ∷ xs) h = or_from (test x) (list_any test xs) (h x (has_first x xs)) (none_there test xs (λ y g. h y (has_next x xs y g)))

-- ---- the greatest

pub first_most : {A : Type 0} (f : A → ℕ) (k : ℕ) (xs : List A) → k ≤ fold (λ (n : ℕ) (x : A). max n (f x)) k xs
first_most f k [] = omega arith
first_most f k (x ∷ xs) =
    let here : k ≤ max k (f x) = omega arith in
    let rest = first_most f (max k (f x)) xs in
    omega (arith, here, rest)

pub each_most : {A : Type 0} (f : A → ℕ) (k : ℕ) (xs : List A) (x : A) → Has xs x → f x ≤ fold (λ (n : ℕ) (y : A). max n (f y)) k xs
each_most f k [] x h = absurd (has_none x h)
each_most f k (y ∷ xs) x h =
    elim (has_cases y xs x h) [
      | inl same ↦
          let here : f y ≤ max k (f y) = omega arith in
          let rest = first_most f (max k (f y)) xs in
          let it = ap f same in
          omega (arith, here, rest, it)
      | inr rest ↦ each_most f (max k (f y)) xs x rest
    ]

-- ---- maps that agree

pub map_same : {A B : Type 0} (f g : A → B) (xs : List A) → ((x : A) → Has xs x → f x ≡ g x) → map f xs ≡ map g xs
map_same f g [] h = refl
map_same f g (x ∷ xs) h = ap₂ (λ (y : _) (ys : _). y ∷ ys) (h x (has_first x xs)) (map_same f g xs (λ y e. h y (has_next x xs y e)))

pub same_map : {A B : Type 0} (xs : List A) (f g : A → B) → ((x : A) → f x ≡ g x) → map f xs ≡ map g xs
same_map xs f g h = map_same f g xs (λ x e. h x)
