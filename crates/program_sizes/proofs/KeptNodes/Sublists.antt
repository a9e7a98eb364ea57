-- What is left of a list where some of its elements are dropped.
use Rattle.std.proofs.Common.{◌⊎◌, inl, inr, refl, ◌∙◌, subst, arith, List, [], ◌∷◌, ◌++◌, append-nil}
use Rattle.std.specs.Prelude.{Contains}
use Rattle.std.proofs.lemmas.List.Elements.{Contains-append_left, Contains-append_right, Contains-append_cases}
use Rattle.program_sizes.specs.KeptNodes.Points.{IsSublist}

module _ {A : Type 0} where
  pub left_keep : (x : A) (xs ys : List A) → IsSublist xs ys → IsSublist (x ∷ xs) (x ∷ ys)
  left_keep x xs ys h = inl (refl, h)

  pub left_drop : (y : A) (xs ys : List A) → IsSublist xs ys → IsSublist xs (y ∷ ys)
  left_drop y [] ys h = tt
  left_drop y (x ∷ xs) ys h = inr h

  pub left_all : (xs : List A) → IsSublist xs xs
  left_all [] = tt
  left_all (x ∷ xs) = inl (refl, left_all xs)

  -- nothing is left of the first ones
  pub left_right : (xs us ys : List A) → IsSublist xs ys → IsSublist xs (us ++ ys)
  left_right xs [] ys h = h
  left_right xs (a ∷ us) ys h = left_drop a xs (us ++ ys) (left_right xs us ys h)

  pub left_both : (xs ys us vs : List A) → IsSublist xs us → IsSublist ys vs → IsSublist (xs ++ ys) (us ++ vs)
  left_both [] ys us vs h k = left_right ys us vs k
  left_both (x ∷ xs) ys [] vs h k = absurd h
  left_both (x ∷ xs) ys (a ∷ us) vs (inl h) k = inl (h.0, left_both xs ys us vs h.1 k)
  left_both (x ∷ xs) ys (a ∷ us) vs (inr h) k = inr (left_both (x ∷ xs) ys us vs h k)

  -- or of the last ones
  pub left_left : (xs us vs : List A) → IsSublist xs us → IsSublist xs (us ++ vs)
  left_left xs us vs h = subst (λ zs. IsSublist zs (us ++ vs)) (append-nil xs) (left_both xs [] us vs h tt)

  pub left_through : (xs ys zs : List A) → IsSublist xs ys → IsSublist ys zs → IsSublist xs zs
  left_through [] ys zs h k = tt
  left_through (x ∷ xs) [] zs h k = absurd h
  left_through (x ∷ xs) (y ∷ ys) [] h k = absurd k
  left_through (x ∷ xs) (y ∷ ys) (z ∷ zs) (inl h) (inl k) = inl (h.0 ∙ k.0, left_through xs ys zs h.1 k.1)
  left_through (x ∷ xs) (y ∷ ys) (z ∷ zs) (inr h) (inl k) = inr (left_through (x ∷ xs) ys zs h k.1)
  left_through (x ∷ xs) (y ∷ ys) (z ∷ zs) h (inr k) = inr (left_through (x ∷ xs) (y ∷ ys) zs h k)

  -- ---- elements

  none_contained : (p : A) → Contains [] p → ⊥
  none_contained p (k, below, e) = absurd (omega (arith, below))

  pub left_contained : (xs ys : List A) (p : A) → IsSublist xs ys → Contains xs p → Contains ys p
  left_contained [] ys p h c = absurd (none_contained p c)
  left_contained (x ∷ xs) [] p h c = absurd h
  left_contained (x ∷ xs) (y ∷ ys) p (inl h) c = by (Contains-append_cases (x ∷ []) xs p c) (left_contained xs ys p h.1) where
    by : Contains (x ∷ []) p ⊎ Contains xs p → (Contains xs p → Contains ys p) → Contains (y ∷ ys) p
    by (inl one) more = Contains-append_left (y ∷ []) ys p (subst (λ z. Contains (z ∷ []) p) h.0 one)
    by (inr one) more = Contains-append_right (y ∷ []) ys p (more one)
  left_contained (x ∷ xs) (y ∷ ys) p (inr h) c = Contains-append_right (y ∷ []) ys p (left_contained (x ∷ xs) ys p h c)
