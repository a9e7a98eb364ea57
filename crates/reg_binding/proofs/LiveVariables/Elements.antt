-- The elements of lists, found by their places.
use Rattle.std.proofs.Common.{◌≡◌, ℕ, zero, suc, ◌<◌, ◌≤◌, Bool, true, ◌||◌, List, [], ◌∷◌, ◌++◌, map, set, length, get_or, slice_get, Some, None, ◌⊎◌, inl, inr, refl, sym, ap, ◌∙◌, arith}
use Rattle.std.specs.List.{list_any}
use Rattle.std.proofs.lemmas.Bool.{false≢true, or_cases, or_left, or_right}

pub any_found : {A : Type 0} (p : A → Bool) (xs : List A) → list_any p xs ≡ true → (k : ℕ) × (x : A) × (slice_get xs k ≡ Some x) × (p x ≡ true)
any_found p [] e = absurd (false≢true e)
any_found p (x ∷ xs) e = elim (or_cases (p x) (list_any p xs) e) [
  | inl t ↦ (zero, x, refl, t)
  | inr t ↦ let r = any_found p xs t in (suc r.0, r.1, r.2, r.3)
]

pub any_at : {A : Type 0} (p : A → Bool) (xs : List A) (k : ℕ) (x : A) → slice_get xs k ≡ Some x → p x ≡ true → list_any p xs ≡ true
any_at p [] k x g t = (cc)
any_at p (y ∷ ys) zero x g t = let same : y ≡ x = cc in or_left (p y) (list_any p ys) (ap p same ∙ t)
any_at p (y ∷ ys) (suc k) x g t = or_right (p y) (list_any p ys) (any_at p ys k x g t)

pub any_same : {A : Type 0} (p q : A → Bool) (xs : List A) → ((x : A) → p x ≡ q x) → list_any p xs ≡ list_any q xs
any_same p q [] same = refl
any_same p q (x ∷ xs) same = ap (λ b. b || list_any p xs) (same x) ∙ ap (λ b. q x || b) (any_same p q xs same)

pub some_at : {A : Type 0} (xs : List A) (k : ℕ) → k < length xs → (x : A) × (slice_get xs k ≡ Some x)
some_at [] k l = absurd (omega arith)
some_at (x ∷ xs) zero l = (x, refl)
some_at (x ∷ xs) (suc k) l = some_at xs k (omega arith)

pub within : {A : Type 0} (xs : List A) (k : ℕ) (x : A) → slice_get xs k ≡ Some x → k < length xs
within [] k x g = (cc)
within (y ∷ ys) zero x g = omega arith
within (y ∷ ys) (suc k) x g = let l = within ys k x g in omega arith

pub got_of : {A : Type 0} (xs : List A) (k : ℕ) (x : A) → k < length xs → x ≡ get_or xs k x → slice_get xs k ≡ Some x
got_of [] k x l e = absurd (omega arith)
got_of (y ∷ ys) zero x l e = ap (λ z. Some z) (sym e)
got_of (y ∷ ys) (suc k) x l e = got_of ys k x (omega arith) e

pub mapped_at : {A B : Type 0} (f : A → B) (xs : List A) (k : ℕ) (x : A) (y : B) → slice_get xs k ≡ Some x → slice_get (map f xs) k ≡ Some y → f x ≡ y
mapped_at f [] k x y g h = (cc)
mapped_at f (z ∷ zs) zero x y g h = let same : z ≡ x = cc in let other : f z ≡ y = cc in ap f (sym same) ∙ other
mapped_at f (z ∷ zs) (suc k) x y g h = mapped_at f zs k x y g h

pub map_at : {A B : Type 0} (f : A → B) (xs : List A) (k : ℕ) (x : A) → slice_get xs k ≡ Some x → slice_get (map f xs) k ≡ Some (f x)
map_at f [] k x g = (cc)
map_at f (z ∷ zs) zero x g = let same : z ≡ x = cc in ap (λ w. Some (f w)) same
map_at f (z ∷ zs) (suc k) x g = map_at f zs k x g

pub set_found : {A : Type 0} (xs : List A) (k : ℕ) (a : A) (i : ℕ) (x : A) → slice_get (set xs k a) i ≡ Some x → ((i ≡ k) × (x ≡ a)) ⊎ (slice_get xs i ≡ Some x)
set_found [] k a i x g = inr g
set_found (y ∷ ys) zero a zero x g = let same : a ≡ x = cc in inl (refl, sym same)
set_found (y ∷ ys) zero a (suc i) x g = inr g
set_found (y ∷ ys) (suc k) a zero x g = inr g
set_found (y ∷ ys) (suc k) a (suc i) x g = elim (set_found ys k a i x g) [ inl both ↦ inl (ap (λ m. suc m) both.0, both.1) | inr found ↦ inr found ]

pub push_found : {A : Type 0} (xs : List A) (a : A) (i : ℕ) (x : A) → slice_get (xs ++ a ∷ []) i ≡ Some x → (x ≡ a) ⊎ (slice_get xs i ≡ Some x)
push_found [] a zero x g = let same : a ≡ x = cc in inl (sym same)
push_found [] a (suc i) x g = inr g
push_found (y ∷ ys) a zero x g = inr g
push_found (y ∷ ys) a (suc i) x g = push_found ys a i x g

pub past : {A : Type 0} (xs : List A) (k : ℕ) → length xs ≤ k → slice_get xs k ≡ None
past [] k l = refl
past (x ∷ xs) zero l = absurd (omega arith)
past (x ∷ xs) (suc k) l = past xs k (omega arith)

pub any_map : {A B : Type 0} (p : B → Bool) (f : A → B) (xs : List A) → list_any p (map f xs) ≡ list_any (λ x. p (f x)) xs
any_map p f [] = refl
any_map p f (x ∷ xs) = ap (λ b. p (f x) || b) (any_map p f xs)
