-- Elements of lists that grow at their ends.
use Rattle.std.proofs.Common.{◌≡◌, ◌∙◌, ◌<◌, ◌⊎◌, inl, inr, ℕ, zero, suc, refl, ap, sym, arith, List, [], ◌∷◌, ◌++◌, map, length, Some}
use Rattle.std.specs.Prelude.{slice_get, get_or}
use Rattle.std.specs.Option.{option_map}
use Rattle.std.proofs.lemmas.Option.{unwrap_or-slice_get, slice_get-map}
use Rattle.std.specs.Prelude.{unwrap_or}

module _ {X : Type 0} where
  pub there : (xs : List X) (i : ℕ) → i < length xs → (x : X) × (slice_get xs i ≡ Some x)
  there [] i h = absurd (omega (arith, h))
  there (x ∷ xs) zero h = (x, refl)
  there (x ∷ xs) (suc i) h = there xs i (omega (arith, h))

  pub left_of : (xs ys : List X) (i : ℕ) (x : X) → slice_get xs i ≡ Some x → slice_get (xs ++ ys) i ≡ Some x
  left_of [] ys i x e = absurd cc
  left_of (y ∷ xs) ys zero x e = e
  left_of (y ∷ xs) ys (suc i) x e = left_of xs ys i x e

  pub seam : (xs ys : List X) (y : X) → slice_get (xs ++ y ∷ ys) (length xs) ≡ Some y
  seam [] ys y = refl
  seam (x ∷ xs) ys y = seam xs ys y

  some_one : (x y : X) → Some x ≡ Some y → x ≡ y
  some_one x y e = cc

  pub last_or : (xs : List X) (y : X) (i : ℕ) (x : X) → slice_get (xs ++ y ∷ []) i ≡ Some x → (slice_get xs i ≡ Some x) ⊎ ((i ≡ length xs) × (y ≡ x))
  last_or [] y zero x e = inr (refl, some_one y x e)
  last_or [] y (suc i) x e = absurd cc
  last_or (z ∷ xs) y zero x e = inl e
  last_or (z ∷ xs) y (suc i) x e = later (last_or xs y i x e) where
    later : (slice_get xs i ≡ Some x) ⊎ ((i ≡ length xs) × (y ≡ x)) → (slice_get (z ∷ xs) (suc i) ≡ Some x) ⊎ ((suc i ≡ length (z ∷ xs)) × (y ≡ x))
    later (inl h) = inl h
    later (inr h) = inr (ap suc h.0, h.1)

pub length_map : {X Y : Type 0} (f : X → Y) (xs : List X) → length (map f xs) ≡ length xs
length_map f [] = refl
length_map f (x ∷ xs) = ap suc (length_map f xs)

pub map_more : {X Y : Type 0} (f : X → Y) (xs : List X) (x : X) → map f (xs ++ x ∷ []) ≡ map f xs ++ f x ∷ []
map_more f [] x = refl
map_more f (y ∷ xs) x = ap (λ l. f y ∷ l) (map_more f xs x)

-- an element that is in both or in none
pub map_at : {X : Type 0} (f : X → ℕ) (xs ys : List X) (i : ℕ) → slice_get xs i ≡ slice_get ys i → get_or (map f xs) i 0 ≡ get_or (map f ys) i 0
map_at f xs ys i e =
    sym (unwrap_or-slice_get (map f xs) i 0) ∙ ap (λ o. unwrap_or o 0) (slice_get-map f xs i ∙ ap (option_map f) e ∙ sym (slice_get-map f ys i))
    ∙ unwrap_or-slice_get (map f ys) i 0
