-- Lists without a repetition.
use Rattle.std.proofs.Common.{◌≡◌, ◌≢◌, ◌⊎◌, inl, inr, ℕ, zero, suc, List, [], ◌∷◌, ◌++◌, Some, refl, sym, ap, ◌∙◌, subst, arith}
use Rattle.std.specs.Prelude.{slice_get, IsPermutation}
use Rattle.std.specs.List.{All}
use Rattle.std.proofs.lemmas.Option.{none-some, same_Some}
use Rattle.std.proofs.lemmas.List.Elements.{All-nil, All-cons, All-head, All-tail}
use Rattle.std.proofs.lemmas.List.Sorted.{IsPermutation-refl, IsPermutation-trans, IsPermutation-sym, IsPermutation-cons, IsPermutation-middle}
use Rattle.rtl_core.specs.Valid.{AreDistinct}

abbrev pub Among : {A : Type 0} → A → List A → Type 0
Among x [] = ⊥
Among x (y ∷ ys) = (y ≡ x) ⊎ Among x ys

pub among_place : {A : Type 0} (x : A) (xs : List A) → Among x xs → (k : ℕ) × (slice_get xs k ≡ Some x)
among_place x [] h = elim h [ ]
among_place x (y ∷ ys) (inl e) = (0, ap Some e)
among_place x (y ∷ ys) (inr h) = let r = among_place x ys h in (suc r.0, r.1)

pub place_among : {A : Type 0} (xs : List A) (k : ℕ) (x : A) → slice_get xs k ≡ Some x → Among x xs
place_among [] k x e = absurd (none-some x e)
place_among (y ∷ ys) zero x e = inl (same_Some y x e)
place_among (y ∷ ys) (suc k) x e = inr (place_among ys k x e)

pub all_among : {A : Type 0} (P : A → Type 0) (xs : List A) (x : A) → All P xs → Among x xs → P x
all_among P [] x all h = elim h [ ]
all_among P (y ∷ ys) x all (inl e) = subst P e (All-head P y ys all)
all_among P (y ∷ ys) x all (inr h) = all_among P ys x (All-tail P y ys all) h

pub among_all : {A : Type 0} (P : A → Type 0) (xs : List A) → ((x : A) → Among x xs → P x) → All P xs
among_all P [] h = All-nil P
among_all P (x ∷ xs) h = All-cons P x xs (h x (inl refl)) (among_all P xs (λ y k. h y (inr k)))

among_split : {A : Type 0} (x : A) (xs : List A) → Among x xs → (us : List A) × (vs : List A) × (xs ≡ us ++ x ∷ vs)
among_split x [] h = elim h [ ]
among_split x (y ∷ ys) (inl e) = ([], ys, ap (λ z. z ∷ ys) e)
among_split x (y ∷ ys) (inr h) = let r = among_split x ys h in (y ∷ r.0, r.1, ap (λ zs. y ∷ zs) r.2)

-- an element of a list with one more in the middle is that one, or one of the others
middle_cases : {A : Type 0} (z x : A) (us vs : List A) → Among z (us ++ x ∷ vs) → (x ≡ z) ⊎ Among z (us ++ vs)
middle_cases z x [] vs h = h
middle_cases z x (u ∷ us) vs (inl e) = inr (inl e)
middle_cases z x (u ∷ us) vs (inr h) = elim (middle_cases z x us vs h) [ inl e ↦ inl e | inr k ↦ inr (inr k) ]

among_more : {A : Type 0} (z x : A) (us vs : List A) → Among z (us ++ vs) → Among z (us ++ x ∷ vs)
among_more z x [] vs h = inr h
among_more z x (u ∷ us) vs (inl e) = inl e
among_more z x (u ∷ us) vs (inr h) = inr (among_more z x us vs h)

among_middle : {A : Type 0} (x : A) (us vs : List A) → Among x (us ++ x ∷ vs)
among_middle x [] vs = inl refl
among_middle x (u ∷ us) vs = inr (among_middle x us vs)

without : (x : List ℕ) (us vs : List (List ℕ)) → AreDistinct (us ++ x ∷ vs) → AreDistinct (us ++ vs) × (Among x (us ++ vs) → ⊥)
without x [] vs h = (h.1, λ k. all_among (λ y. x ≢ y) vs x h.0 k refl)
without x (u ∷ us) vs h =
    let r = without x us vs h.1 in (
      (among_all (λ y. u ≢ y) (us ++ vs) (λ y k. all_among (λ y. u ≢ y) (us ++ x ∷ vs) y h.0 (among_more y x us vs k)), r.0),
      λ k. elim k [ inl e ↦ all_among (λ y. u ≢ y) (us ++ x ∷ vs) x h.0 (among_middle x us vs) e | inr j ↦ r.1 j ],
    )

-- lists without a repetition that have the same elements
pub same_elements : (xs ys : List (List ℕ)) → AreDistinct xs → AreDistinct ys → ((z : List ℕ) → Among z xs → Among z ys) → ((z : List ℕ) → Among z ys → Among z xs) → IsPermutation xs ys
same_elements [] [] dx dy f g = IsPermutation-refl []
same_elements [] (y ∷ ys) dx dy f g = elim (g y (inl refl)) [ ]
same_elements (x ∷ xs) ys dx dy f g =
    let s = among_split x ys (f x (inl refl)) in
    let us = s.0 in
    let vs = s.1 in
    let w = without x us vs (subst AreDistinct s.2 dy) in
    let forth : (z : List ℕ) → Among z xs → Among z (us ++ vs) =
    (λ z h. elim (middle_cases z x us vs (subst (Among z) s.2 (f z (inr h)))) [ inl e ↦ absurd (all_among (λ y. x ≢ y) xs z dx.0 h e) | inr k ↦ k ]) in
    let back : (z : List ℕ) → Among z (us ++ vs) → Among z xs =
    (λ z h. elim (g z (subst (Among z) (sym s.2) (among_more z x us vs h))) [ inl e ↦ absurd (w.1 (subst (λ y. Among y (us ++ vs)) (sym e) h)) | inr k ↦ k ]) in
    let inner = same_elements xs (us ++ vs) dx.1 w.0 forth back in
    subst (IsPermutation (x ∷ xs)) (sym s.2)
    (IsPermutation-trans (x ∷ xs) (x ∷ (us ++ vs)) (us ++ x ∷ vs) (IsPermutation-cons x xs (us ++ vs) inner)
    (IsPermutation-sym (us ++ x ∷ vs) (x ∷ (us ++ vs)) (IsPermutation-middle us x vs)))

-- one place for each element
pub distinct_places : (xs : List (List ℕ)) → ((j k : ℕ) (x : List ℕ) → slice_get xs j ≡ Some x → slice_get xs k ≡ Some x → j ≡ k) → AreDistinct xs
distinct_places [] h = tt
distinct_places (x ∷ xs) h = (
  among_all (λ y. x ≢ y) xs
      (λ y k e. let p = among_place y xs k in let z : 0 ≡ suc p.0 = h 0 (suc p.0) x refl (p.1 ∙ ap Some (sym e)) in absurd (omega (arith, z))),
  distinct_places xs (λ j k y a b. let z : suc j ≡ suc k = h (suc j) (suc k) y a b in omega (arith, z)),
)

pub places_distinct : (xs : List (List ℕ)) → AreDistinct xs → (j k : ℕ) (x : List ℕ) → slice_get xs j ≡ Some x → slice_get xs k ≡ Some x → j ≡ k
places_distinct [] d j k x a b = absurd (none-some x a)
places_distinct (y ∷ ys) d zero zero x a b = refl
places_distinct (y ∷ ys) d zero (suc k) x a b = absurd (all_among (λ z. y ≢ z) ys x d.0 (place_among ys k x b) (same_Some y x a))
places_distinct (y ∷ ys) d (suc j) zero x a b = absurd (all_among (λ z. y ≢ z) ys x d.0 (place_among ys j x a) (same_Some y x b))
places_distinct (y ∷ ys) d (suc j) (suc k) x a b = ap suc (places_distinct ys d.1 j k x a b)

pub distinct_left : (xs ys : List (List ℕ)) → AreDistinct (xs ++ ys) → AreDistinct xs
distinct_left [] ys d = tt
distinct_left (x ∷ xs) ys d = (among_all (λ y. x ≢ y) xs (λ y k. all_among (λ y. x ≢ y) (xs ++ ys) y d.0 (among_left y xs ys k)), distinct_left xs ys d.1)
  where
    among_left : (z : List ℕ) (us vs : List (List ℕ)) → Among z us → Among z (us ++ vs)
    among_left z [] vs h = elim h [ ]
    among_left z (u ∷ us) vs (inl e) = inl e
    among_left z (u ∷ us) vs (inr h) = inr (among_left z us vs h)

pub distinct_right : (xs ys : List (List ℕ)) → AreDistinct (xs ++ ys) → AreDistinct ys
distinct_right [] ys d = d
distinct_right (x ∷ xs) ys d = distinct_right xs ys d.1

pub among_append : {A : Type 0} (z : A) (us vs : List A) → Among z us ⊎ Among z vs → Among z (us ++ vs)
among_append z [] vs (inl h) = elim h [ ]
among_append z [] vs (inr h) = h
among_append z (u ∷ us) vs (inl (inl e)) = inl e
among_append z (u ∷ us) vs (inl (inr h)) = inr (among_append z us vs (inl h))
among_append z (u ∷ us) vs (inr h) = inr (among_append z us vs (inr h))

pub append_among : {A : Type 0} (z : A) (us vs : List A) → Among z (us ++ vs) → Among z us ⊎ Among z vs
append_among z [] vs h = inr h
append_among z (u ∷ us) vs (inl e) = inl (inl e)
append_among z (u ∷ us) vs (inr h) = elim (append_among z us vs h) [ inl k ↦ inl (inr k) | inr k ↦ inr k ]

-- no element stands in both parts
pub parts_apart : (xs ys : List (List ℕ)) (z : List ℕ) → AreDistinct (xs ++ ys) → Among z xs → Among z ys → ⊥
parts_apart [] ys z d h k = elim h [ ]
parts_apart (x ∷ xs) ys z d (inl e) k = all_among (λ y. x ≢ y) (xs ++ ys) z d.0 (among_append z xs ys (inr k)) e
parts_apart (x ∷ xs) ys z d (inr h) k = parts_apart xs ys z d.1 h k
