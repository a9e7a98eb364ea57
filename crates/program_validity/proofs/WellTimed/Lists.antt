-- Lemmas on lists and options.
use Rattle.std.proofs.Common.{◌≡◌, ℕ, zero, suc, ◌<◌, ◌≤◌, ◌∙◌, sym, refl, ap, List, [], ◌∷◌, ◌++◌, map, take, length, get_or, Some, None, arith}
use Rattle.std.specs.Prelude.{slice_get}
use Rattle.std.specs.Option.{option_map}
use Rattle.std.proofs.lemmas.Option.{slice_get-get_or}
use Rattle.dep_graph.specs.Offsets.{nth}

pub some_same : {A : Type 0} {x y : A} → Some x ≡ Some y → x ≡ y
some_same e = (cc)

pub no_some : {A : Type 0} {x : A} → None ≡ Some x → ⊥
no_some e = (cc)

-- ---- elements by their numbers

pub nth_get : {A : Type 0} (xs : List A) (k : ℕ) → nth xs k ≡ slice_get xs k
nth_get [] k = refl
nth_get (x ∷ xs) zero = refl
nth_get (x ∷ xs) (suc k) = nth_get xs k

pub get_map : {A B : Type 0} (f : A → B) (xs : List A) (k : ℕ) → slice_get (map f xs) k ≡ option_map f (slice_get xs k)
get_map f [] k = refl
get_map f (x ∷ xs) zero = refl
get_map f (x ∷ xs) (suc k) = get_map f xs k

pub nth_past : {A : Type 0} (xs : List A) (k : ℕ) → length xs ≤ k → nth xs k ≡ None
nth_past [] k h = refl
nth_past (x ∷ xs) zero h = absurd (omega arith)
nth_past (x ∷ xs) (suc k) h = nth_past xs k (omega arith)

pub nth_take : {A : Type 0} (n : ℕ) (xs : List A) (k : ℕ) → k < n → nth (take n xs) k ≡ nth xs k
nth_take zero xs k h = absurd (omega arith)
nth_take (suc n) [] k h = refl
nth_take (suc n) (x ∷ xs) zero h = refl
nth_take (suc n) (x ∷ xs) (suc k) h = nth_take n xs k (omega arith)

pub nth_middle : {A : Type 0} (xs : List A) (y : A) (ys : List A) → nth (xs ++ (y ∷ ys)) (length xs) ≡ Some y
nth_middle [] y ys = refl
nth_middle (x ∷ xs) y ys = nth_middle xs y ys

pub take_front : {A : Type 0} (xs ys : List A) → take (length xs) (xs ++ ys) ≡ xs
take_front [] ys = refl
take_front (x ∷ xs) ys = ap (λ zs. x ∷ zs) (take_front xs ys)

-- what a function makes of the element that is read
pub nth_read : {A B : Type 0} (f : A → B) (xs : List A) (k : ℕ) (x : A) → k < length xs → x ≡ get_or xs k x → nth (map f xs) k ≡ Some (f x)
nth_read f xs k x lt e = nth_get (map f xs) k ∙ get_map f xs k ∙ ap (option_map f) (slice_get-get_or xs k x lt ∙ ap (λ y. Some y) (sym e))
