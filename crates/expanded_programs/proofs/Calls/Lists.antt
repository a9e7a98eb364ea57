-- Places in lists.
use Rattle.std.proofs.Common.{◌≡◌, ℕ, zero, suc, ◌+◌, ◌<◌, ◌≤◌, ◌⊎◌, inl, inr, ◌∙◌, sym, refl, ap, List, [], ◌∷◌, ◌++◌, length, take, drop, slice_get, Some, None, arith}
use Rattle.std.proofs.lemmas.Option.{none-some, same_Some}

-- an element of a list with one more
pub get_last : {A : Type 0} (xs : List A) (x : A) (i : ℕ) (y : A) → slice_get (xs ++ x ∷ []) i ≡ Some y → (slice_get xs i ≡ Some y) ⊎ ((i ≡ length xs) × (x ≡ y))
get_last [] x zero y e = inr (refl, same_Some x y e)
get_last [] x (suc i) y e = absurd (none-some y e)
get_last (z ∷ xs) x zero y e = inl e
get_last (z ∷ xs) x (suc i) y e = elim (get_last xs x i y e) [ inl h ↦ inl h | inr h ↦ inr (ap suc h.0, h.1) ]

pub get_before : {A : Type 0} (xs ys : List A) (i : ℕ) → i < length xs → slice_get (xs ++ ys) i ≡ slice_get xs i
get_before [] ys i lt = absurd (omega (arith, lt))
get_before (z ∷ xs) ys zero lt = refl
get_before (z ∷ xs) ys (suc i) lt = get_before xs ys i (omega (arith, lt))

pub get_taken : {A : Type 0} (n : ℕ) (xs : List A) (i : ℕ) → i < n → slice_get (take n xs) i ≡ slice_get xs i
get_taken zero xs i lt = absurd (omega (arith, lt))
get_taken (suc n) [] i lt = refl
get_taken (suc n) (x ∷ xs) zero lt = refl
get_taken (suc n) (x ∷ xs) (suc i) lt = get_taken n xs i (omega (arith, lt))

pub taken_get : {A : Type 0} (n : ℕ) (xs : List A) (i : ℕ) (x : A) → slice_get (take n xs) i ≡ Some x → (i < n) × (slice_get xs i ≡ Some x)
taken_get zero xs i x e = absurd (none-some x e)
taken_get (suc n) [] i x e = absurd (none-some x e)
taken_get (suc n) (y ∷ xs) zero x e = (omega arith, e)
taken_get (suc n) (y ∷ xs) (suc i) x e = (let h = taken_get n xs i x e in (omega (arith, h.0), h.1))

pub taken_past : {A : Type 0} (n : ℕ) (xs : List A) (i : ℕ) → n ≤ i → slice_get (take n xs) i ≡ None
taken_past zero xs i le = refl
taken_past (suc n) [] i le = refl
taken_past (suc n) (x ∷ xs) zero le = absurd (omega (arith, le))
taken_past (suc n) (x ∷ xs) (suc i) le = taken_past n xs i (omega (arith, le))

pub get_dropped : {A : Type 0} (n : ℕ) (xs : List A) (i : ℕ) → slice_get (drop n xs) i ≡ slice_get xs (n + i)
get_dropped zero xs i = ap (slice_get xs) (let z : i ≡ 0 + i = omega arith in z)
get_dropped (suc n) [] i = refl
get_dropped (suc n) (x ∷ xs) i = get_dropped n xs i ∙ ap (slice_get (x ∷ xs)) (let z : suc (n + i) ≡ suc n + i = omega arith in z)

-- the element is there where the list is long enough
pub get_within : {A : Type 0} (xs : List A) (i : ℕ) → i < length xs → (x : A) × (slice_get xs i ≡ Some x)
get_within [] i lt = absurd (omega (arith, lt))
get_within (x ∷ xs) zero lt = (x, refl)
get_within (x ∷ xs) (suc i) lt = get_within xs i (omega (arith, lt))

-- The list has what the whole has from this place on.
abbrev pub IsRest : {A : Type 0} → List A → ℕ → List A → Type 0
IsRest whole n xs = (i m : ℕ) → m ≡ n + i → slice_get xs i ≡ slice_get whole m

pub rest_first : {A : Type 0} (whole : List A) (n : ℕ) (x : A) (xs : List A) → IsRest whole n (x ∷ xs) → slice_get whole n ≡ Some x
rest_first whole n x xs h = sym (h 0 n (omega arith))

pub rest_behind : {A : Type 0} (whole : List A) (n : ℕ) (x : A) (xs : List A) → IsRest whole n (x ∷ xs) → IsRest whole (n + 1) xs
rest_behind whole n x xs h i m e = h (suc i) m (omega (arith, e))

pub rest_dropped : {A : Type 0} (whole : List A) (n : ℕ) → IsRest whole n (drop n whole)
rest_dropped whole n i m e = get_dropped n whole i ∙ ap (slice_get whole) (sym e)

pub get_behind : {A : Type 0} (xs ys : List A) (j m : ℕ) → m ≡ length xs + j → slice_get (xs ++ ys) m ≡ slice_get ys j
get_behind [] ys j m e = ap (slice_get ys) (let z : m ≡ j = omega (arith, e) in z)
get_behind (x ∷ xs) ys j zero e = absurd (omega (arith, e))
get_behind (x ∷ xs) ys j (suc m) e = get_behind xs ys j m (omega (arith, e))

pub length_dropped : {A : Type 0} (n : ℕ) (xs : List A) → n ≤ length xs → n + length (drop n xs) ≡ length xs
length_dropped zero xs le = omega arith
length_dropped (suc n) [] le = absurd (omega (arith, le))
length_dropped (suc n) (x ∷ xs) le = (let h = length_dropped n xs (omega (arith, le)) in omega (arith, h))
