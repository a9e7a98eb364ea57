-- Elements of lists that grow at their ends.
use Rattle.std.proofs.Common.{◌≡◌, ◌<◌, ◌⊎◌, inl, inr, ℕ, zero, suc, refl, ap, arith, List, [], ◌∷◌, ◌++◌, length, Some}
use Rattle.std.specs.Prelude.{slice_get}

module _ {X : Type 0} where
  pub there : (xs : List X) (i : ℕ) → i < length xs → (x : X) × (slice_get xs i ≡ Some x)
  there [] i h = absurd (omega (arith, h))
  there (x ∷ xs) zero h = (x, refl)
  there (x ∷ xs) (suc i) h = there xs i (omega (arith, h))

  pub within : (xs : List X) (i : ℕ) (x : X) → slice_get xs i ≡ Some x → i < length xs
  within [] i x e = absurd cc
  within (y ∷ xs) zero x e = omega arith
  within (y ∷ xs) (suc i) x e = let h = within xs i x e in omega (arith, h)

  pub left_of : (xs ys : List X) (i : ℕ) (x : X) → slice_get xs i ≡ Some x → slice_get (xs ++ ys) i ≡ Some x
  left_of [] ys i x e = absurd cc
  left_of (y ∷ xs) ys zero x e = e
  left_of (y ∷ xs) ys (suc i) x e = left_of xs ys i x e

  pub seam : (xs ys : List X) (y : X) → slice_get (xs ++ y ∷ ys) (length xs) ≡ Some y
  seam [] ys y = refl
  seam (x ∷ xs) ys y = seam xs ys y

  some_one : (x y : X) → Some x ≡ Some y → x ≡ y
  some_one x y e = cc

  pub last_or : (xs : List X) (y : X) (i : ℕ) (x : X) → slice_get (xs ++ y ∷ []) i ≡ Some x → (slice_get xs i ≡ Some x) ⊎ ((i ≡ length xs) × (y ≡ x))
  last_or [] y zero x e = inr (refl, some_one y x e)
  last_or [] y (suc i) x e = absurd cc
  last_or (z ∷ xs) y zero x e = inl e
  last_or (z ∷ xs) y (suc i) x e = later (last_or xs y i x e) where
    later : (slice_get xs i ≡ Some x) ⊎ ((i ≡ length xs) × (y ≡ x)) → (slice_get (z ∷ xs) (suc i) ≡ Some x) ⊎ ((suc i ≡ length (z ∷ xs)) × (y ≡ x))
    later (inl h) = inl h
    later (inr h) = inr (ap suc h.0, h.1)
