-- What all elements of a list are, and what stands in it.
use Rattle.std.proofs.Common.{◌≡◌, ℕ, zero, suc, ◌+◌, ◌<◌, ◌≤◌, ◌⊎◌, List, [], ◌∷◌, ◌++◌, map, flat_map, Some, inl, inr, refl, sym, ap, ap₂, subst, eq-or-lt_of_le, arith}
use Rattle.std.specs.Prelude.{slice_get}
use Rattle.std.specs.List.{enumerate_from, range_with_len}
use Rattle.reg_binding.specs.Pools.{Has}
use Rattle.reg_binding.proofs.Members.{none, first_or_later, at_first, at_later}

pub same_some : {A : Type 0} {x y : A} → Some x ≡ Some y → x ≡ y
same_some e = cc

-- ---- elements

pub record Each {A : Type 0} (P : A → Type 0) (xs : List A) : Type 0 where
  pub all : (x : A) → Has xs x → P x

pub each_none : {A : Type 0} {P : A → Type 0} → Each P []
each_none = record { all = λ x h. absurd (none x h) }

pub each_more : {A : Type 0} {P : A → Type 0} {x : A} {xs : List A} → P x → Each P xs → Each P (x ∷ xs)
each_more {P = P} {x} {xs} p h = record { all = λ y has. elim (first_or_later x xs y has) [ inl e ↦ subst P (sym e) p | inr later ↦ h.all y later ] }

pub each_both : {A : Type 0} {P : A → Type 0} {xs ys : List A} → Each P xs → Each P ys → Each P (xs ++ ys)
each_both {xs = []} h g = g
each_both {xs = x ∷ xs} {ys} h g = each_more (h.all x (at_first x xs)) (each_both {xs = xs} {ys = ys} (record { all = λ y has. h.all y (at_later x xs y has) }) g)

pub each_map : {A B : Type 0} {P : B → Type 0} (f : A → B) (xs : List A) → Each (λ x. P (f x)) xs → Each P (map f xs)
each_map f [] h = each_none
each_map f (x ∷ xs) h = each_more (h.all x (at_first x xs)) (each_map f xs (record { all = λ y has. h.all y (at_later x xs y has) }))

pub each_flat : {A B : Type 0} {P : B → Type 0} (f : A → List B) (xs : List A) → Each (λ x. Each P (f x)) xs → Each P (flat_map f xs)
each_flat f [] h = each_none
each_flat f (x ∷ xs) h = each_both (h.all x (at_first x xs)) (each_flat f xs (record { all = λ y has. h.all y (at_later x xs y has) }))

pub each_range : (a n : ℕ) → Each (λ m. (a ≤ m) × (m < a + n)) (range_with_len a n)
each_range a zero = each_none
each_range a (suc n) = each_more (omega arith, omega arith) (record { all = λ m has. let h = (each_range (a + 1) n).all m has in (omega (arith, h.0), omega (arith, h.1)) })

pub each_numbered : {A : Type 0} (k : ℕ) (xs : List A) → Each (λ (n : ℕ × A). (j : ℕ) × ((n.0 ≡ k + j) × (slice_get xs j ≡ Some n.1))) (enumerate_from k xs)
each_numbered k [] = each_none
each_numbered k (x ∷ xs) =
    each_more (zero, (omega arith, refl))
    (record { all = λ n has. let h = (each_numbered (k + 1) xs).all n has in (suc h.0, (omega (arith, h.1.0), h.1.1)) })

-- ---- what stands in a list

pub in_left : {A : Type 0} (xs ys : List A) (x : A) → Has xs x → Has (xs ++ ys) x
in_left [] ys x h = absurd (none x h)
in_left (y ∷ xs) ys x h = elim (first_or_later y xs x h) [
  | inl e ↦ (zero, ap Some (sym e))
  | inr later ↦ at_later y (xs ++ ys) x (in_left xs ys x later)
]

pub in_right : {A : Type 0} (xs ys : List A) (x : A) → Has ys x → Has (xs ++ ys) x
in_right [] ys x h = h
in_right (y ∷ xs) ys x h = at_later y (xs ++ ys) x (in_right xs ys x h)

pub in_either : {A : Type 0} (xs ys : List A) (x : A) → Has (xs ++ ys) x → Has xs x ⊎ Has ys x
in_either [] ys x h = inr h
in_either (y ∷ xs) ys x h = elim (first_or_later y (xs ++ ys) x h) [
  | inl e ↦ inl (zero, ap Some (sym e))
  | inr later ↦ elim (in_either xs ys x later) [ inl l ↦ inl (at_later y xs x l) | inr r ↦ inr r ]
]

pub in_flat : {A B : Type 0} (f : A → List B) (xs : List A) (x : A) (y : B) → Has xs x → Has (f x) y → Has (flat_map f xs) y
in_flat f [] x y h there = absurd (none x h)
in_flat f (a ∷ xs) x y h there = elim (first_or_later a xs x h) [
  | inl e ↦ in_left (f a) (flat_map f xs) y (subst (λ z. Has (f z) y) e there)
  | inr later ↦ in_right (f a) (flat_map f xs) y (in_flat f xs x y later there)
]

pub from_flat : {A B : Type 0} (f : A → List B) (xs : List A) (y : B) → Has (flat_map f xs) y → (x : A) × (Has xs x × Has (f x) y)
from_flat f [] y h = absurd (none y h)
from_flat f (a ∷ xs) y h = elim (in_either (f a) (flat_map f xs) y h) [
  | inl first ↦ (a, (at_first a xs, first))
  | inr later ↦ (let m = from_flat f xs y later in (m.0, (at_later a xs m.0 m.1.0, m.1.1)))
]

pub in_map : {A B : Type 0} (f : A → B) (xs : List A) (x : A) → Has xs x → Has (map f xs) (f x)
in_map f [] x h = absurd (none x h)
in_map f (a ∷ xs) x h = elim (first_or_later a xs x h) [
  | inl e ↦ (zero, ap (λ z. Some (f z)) (sym e))
  | inr later ↦ at_later (f a) (map f xs) (f x) (in_map f xs x later)
]

pub from_map : {A B : Type 0} (f : A → B) (xs : List A) (y : B) → Has (map f xs) y → (x : A) × (Has xs x × (y ≡ f x))
from_map f [] y h = absurd (none y h)
from_map f (a ∷ xs) y h = elim (first_or_later (f a) (map f xs) y h) [
  | inl e ↦ (a, (at_first a xs, e))
  | inr later ↦ (let m = from_map f xs y later in (m.0, (at_later a xs m.0 m.1.0, m.1.1)))
]

pub in_range : (a n m : ℕ) → a ≤ m → m < a + n → Has (range_with_len a n) m
in_range a zero m low high = absurd (omega (arith, low, high))
in_range a (suc n) m low high = elim (eq-or-lt_of_le low) [
  | inl e ↦ (zero, ap Some e)
  | inr more ↦ at_later a (range_with_len (a + 1) n) m (in_range (a + 1) n m (omega (arith, more)) (omega (arith, high)))
]

pub in_numbered : {A : Type 0} (k j : ℕ) (xs : List A) (x : A) → slice_get xs j ≡ Some x → Has (enumerate_from k xs) (k + j, x)
in_numbered k j [] x e = absurd (none x (j, e))
in_numbered k zero (y ∷ xs) x e =
    let here : k ≡ k + 0 = omega arith in
    (zero, ap₂ (λ (n : ℕ) (z : _). Some (n, z)) here (same_some e))
in_numbered k (suc j) (y ∷ xs) x e =
    let next : k + 1 + j ≡ k + suc j = omega arith in
    at_later (k, y) (enumerate_from (k + 1) xs) (k + suc j, x) (subst (λ (n : ℕ). Has (enumerate_from (k + 1) xs) (n, x)) next (in_numbered (k + 1) j xs x e))
