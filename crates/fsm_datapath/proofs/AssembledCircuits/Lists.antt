-- Lists of which no two elements have the same key, and lists that are joined.
use Rattle.std.proofs.Common.{◌≡◌, ℕ, zero, suc, ◌+◌, ◌<◌, ◌⊎◌, List, [], ◌∷◌, ◌++◌, length, map, flat_map, filter, cond, Some, inl, inr, refl, sym, ap, ◌∙◌, true, arith}
use Rattle.std.specs.Prelude.{slice_get, Bool}
use Rattle.std.specs.List.{enumerate_from}
use Rattle.std.specs.Option.{option_map}
use Rattle.std.proofs.lemmas.Bool.{cases_Bool}
use Rattle.std.proofs.lemmas.Option.{slice_get-map}
use Rattle.reg_binding.specs.Pools.{Has}
use Rattle.reg_binding.proofs.Members.{none, at_first, at_later}
use Rattle.fsm_datapath.proofs.LoggedWrites.Members.{same_some, Each, in_either, from_flat, each_numbered}

-- no two elements have the same key
pub record Once {A B : Type 0} (f : A → B) (xs : List A) : Type 0 where
  pub once : (j k : ℕ) (x y : A) → slice_get xs j ≡ Some x → slice_get xs k ≡ Some y → f x ≡ f y → j ≡ k

pub once_none : {A B : Type 0} {f : A → B} → Once f []
once_none = record { once = λ j k x y at_x at_y same. absurd (none x (j, at_x)) }

more : {A B : Type 0} (f : A → B) (x : A) (xs : List A) → ((y : A) → Has xs y → f x ≡ f y → ⊥) → Once f xs → (j k : ℕ) (y z : A)
    → slice_get (x ∷ xs) j ≡ Some y → slice_get (x ∷ xs) k ≡ Some z → f y ≡ f z → j ≡ k
more f x xs apart rest zero zero y z at_y at_z same = refl
more f x xs apart rest zero (suc k) y z at_y at_z same = absurd (apart z (k, at_z) (ap f (same_some at_y) ∙ same))
more f x xs apart rest (suc j) zero y z at_y at_z same = absurd (apart y (j, at_y) (ap f (same_some at_z) ∙ sym same))
more f x xs apart rest (suc j) (suc k) y z at_y at_z same = ap suc (rest.once j k y z at_y at_z same)

once_more : {A B : Type 0} (f : A → B) (x : A) (xs : List A) → ((y : A) → Has xs y → f x ≡ f y → ⊥) → Once f xs → Once f (x ∷ xs)
once_more f x xs apart rest = record { once = more f x xs apart rest }

pub once_next : {A B : Type 0} {f : A → B} {x : A} {xs : List A} → Each (λ y. f x ≡ f y → ⊥) xs → Once f xs → Once f (x ∷ xs)
once_next {f = f} {x} {xs} apart rest = once_more f x xs apart.all rest

once_later : {A B : Type 0} (f : A → B) (x : A) (xs : List A) → Once f (x ∷ xs) → Once f xs
once_later f x xs h = record { once = λ j k y z at_y at_z same. omega (arith, h.once (suc j) (suc k) y z at_y at_z same) }

first_apart : {A B : Type 0} (f : A → B) (x : A) (xs : List A) → Once f (x ∷ xs) → (y : A) → Has xs y → f x ≡ f y → ⊥
first_apart f x xs h y has same = omega (arith, h.once zero (suc has.0) x y refl has.1 same)

pub once_both : {A B : Type 0} (f : A → B) (xs ys : List A) → Once f xs → Once f ys → ((x y : A) → Has xs x → Has ys y → f x ≡ f y → ⊥) → Once f (xs ++ ys)
once_both f [] ys h g apart = g
once_both f (x ∷ xs) ys h g apart =
    once_more f x (xs ++ ys) (λ y has same. elim (in_either xs ys y has) [ inl l ↦ first_apart f x xs h y l same | inr r ↦ apart x y (at_first x xs) r same ])
    (once_both f xs ys (once_later f x xs h) g (λ z y has_z has_y. apart z y (at_later x xs z has_z) has_y))

-- lists of elements that tell the keys of their owners
pub once_flat : {A B C K : Type 0} (g : A → List B) (f : B → C) (h : A → K) (xs : List A) → Once h xs → ((x : A) → Has xs x → Once f (g x))
    → ((x y : A) (b c : B) → Has (g x) b → Has (g y) c → f b ≡ f c → h x ≡ h y) → Once f (flat_map g xs)
once_flat g f h [] once each owns = once_none
once_flat g f h (x ∷ xs) once each owns =
    once_both f (g x) (flat_map g xs) (each x (at_first x xs))
    (once_flat g f h xs (once_later h x xs once) (λ y has. each y (at_later x xs y has)) owns)
    (λ b c has_b has_c same. let m = from_flat g xs c has_c in first_apart h x xs once m.0 m.1.0 (owns x m.0 b c has_b m.1.1 same))

pub numbered_once : {A : Type 0} (k : ℕ) (xs : List A) → Once (λ (n : ℕ × A). n.0) (enumerate_from k xs)
numbered_once k [] = once_none
numbered_once k (x ∷ xs) =
    once_more _ (k, x) (enumerate_from (k + 1) xs) (λ y has same. let h = (each_numbered (k + 1) xs).all y has in omega (arith, h.1.0, same)) (numbered_once (k + 1) xs)

-- ---- elements

-- an element of two lists that are joined
pub get_either : {A : Type 0} (xs ys : List A) (k : ℕ) (x : A) → slice_get (xs ++ ys) k ≡ Some x → (slice_get xs k ≡ Some x) ⊎ ((j : ℕ) × ((k ≡ length xs + j) × (slice_get ys j ≡ Some x)))
get_either [] ys k x at_ = inr (k, (omega arith, at_))
get_either (y ∷ xs) ys zero x at_ = inl at_
get_either (y ∷ xs) ys (suc k) x at_ = elim (get_either xs ys k x at_) [ inl l ↦ inl l | inr r ↦ inr (r.0, (omega (arith, r.1.0), r.1.1)) ]

pub get_map : {A B : Type 0} (f : A → B) (xs : List A) (k : ℕ) (x : A) → slice_get xs k ≡ Some x → slice_get (map f xs) k ≡ Some (f x)
get_map f xs k x at_ = slice_get-map f xs k ∙ ap (option_map f) at_

-- what stands in a list that is mapped
pub from_get_map : {A B : Type 0} (f : A → B) (xs : List A) (k : ℕ) (y : B) → slice_get (map f xs) k ≡ Some y → (x : A) × ((slice_get xs k ≡ Some x) × (y ≡ f x))
from_get_map f [] k y at_ = absurd (none y (k, at_))
from_get_map f (x ∷ xs) zero y at_ = (x, (refl, sym (same_some at_)))
from_get_map f (x ∷ xs) (suc k) y at_ = from_get_map f xs k y at_

pub element_at : {A : Type 0} (xs : List A) (n : ℕ) → n < length xs → (x : A) × (slice_get xs n ≡ Some x)
element_at [] n low = absurd (omega (arith, low))
element_at (x ∷ xs) zero low = (x, refl)
element_at (x ∷ xs) (suc n) low = element_at xs n (omega (arith, low))

pub filter_none : {A : Type 0} (test : A → Bool) (xs : List A) → ((x : A) → Has xs x → test x ≡ true → ⊥) → filter test xs ≡ []
filter_none test [] h = refl
filter_none test (x ∷ xs) h =
    elim (cases_Bool (test x)) [
      | inl yes_ ↦ absurd (h x (at_first x xs) yes_)
      | inr no_ ↦ ap (λ b. cond b (x ∷ filter test xs) (filter test xs)) no_ ∙ filter_none test xs (λ y has. h y (at_later x xs y has))
    ]
