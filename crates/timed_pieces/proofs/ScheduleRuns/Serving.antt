-- Operations that one unit serves, each behind the one before.
use Rattle.std.proofs.Common.{◌≡◌, ◌≢◌, ℕ, zero, suc, ◌+◌, ◌<◌, ◌≤◌, ◌⊎◌, inl, inr, List, [], ◌∷◌, ◌++◌, length, sym, subst, ◌∙◌, arith}
use Rattle.std.specs.Prelude.{slice_index}
use Rattle.std.specs.List.{Contains}

abbrev pub Has : {A : Type 0} → A → List A → Type 0
Has x [] = ⊥
Has x (y ∷ ys) = (x ≡ y) ⊎ Has x ys

pub has_left : {A : Type 0} (x : A) (xs ys : List A) → Has x xs → Has x (xs ++ ys)
has_left x [] ys h = absurd h
has_left x (z ∷ xs) ys h = elim h [ inl e ↦ inl e | inr r ↦ inr (has_left x xs ys r) ]

pub has_right : {A : Type 0} (x : A) (xs ys : List A) → Has x ys → Has x (xs ++ ys)
has_right x [] ys h = h
has_right x (z ∷ xs) ys h = inr (has_right x xs ys h)

pub has_contains : {A : Type 0} (x : A) (xs : List A) → Has x xs → Contains xs x
has_contains x [] h = absurd h
has_contains x (y ∷ ys) h = elim h [
  | inl e ↦ (0, (let z : 0 < suc (length ys) = omega arith in z), sym e)
  | inr r ↦ (let c = has_contains x ys r in (suc c.0, (let z : c.0 < length ys = c.1 in let w : suc c.0 < suc (length ys) = omega arith in w), c.2))
]

pub contains_has : {A : Type 0} (x : A) (xs : List A) → Contains xs x → Has x xs
contains_has x [] c = absurd (let z = c.1 in omega arith)
contains_has x (y ∷ ys) (zero, lt, e) = inl (sym e)
contains_has x (y ∷ ys) (suc k, lt, e) = inr (contains_has x ys (k, (let z : k < length ys = omega arith in z), e))

module _ (time : ℕ → ℕ) (held : ℕ) where
  -- each starts when the one before it is done
  abbrev pub InTurn : List ℕ → Type 0
  InTurn [] = Unit {0}
  InTurn (x ∷ []) = Unit {0}
  InTurn (x ∷ y ∷ ys) = (time x + held ≤ time y) × InTurn (y ∷ ys)

  turn_tail : (x : ℕ) (xs : List ℕ) → InTurn (x ∷ xs) → InTurn xs
  turn_tail x [] t = tt
  turn_tail x (y ∷ ys) t = t.1

  behind_first : (x n : ℕ) (ys : List ℕ) → InTurn (x ∷ ys) → Has n ys → time x + held ≤ time n
  behind_first x n [] t h = absurd h
  behind_first x n (y ∷ ys) t h = elim h [
    | inl e ↦ subst (λ z. time x + held ≤ time z) (sym e) t.0
    | inr r ↦ (let z = behind_first y n ys t.1 r in let w = t.0 in omega arith)
  ]

  -- of two operations the one is done when the other starts
  pub one_done : (k n : ℕ) (xs : List ℕ) → InTurn xs → Has k xs → Has n xs → k ≢ n → (time k + held ≤ time n) ⊎ (time n + held ≤ time k)
  one_done k n [] t h g ne = absurd h
  one_done k n (x ∷ xs) t h g ne = elim h [
    | inl e ↦ elim g [
      | inl f ↦ absurd (ne (e ∙ sym f))
      | inr r ↦ inl (subst (λ z. time z + held ≤ time n) (sym e) (behind_first x n xs t r))
    ]
    | inr r ↦ elim g [
      | inl f ↦ inr (subst (λ z. time z + held ≤ time k) (sym f) (behind_first x k xs t r))
      | inr s ↦ one_done k n xs (turn_tail x xs t) r s ne
    ]
  ]

  pub first_before : (x k : ℕ) (xs : List ℕ) → InTurn (x ∷ xs) → Has k (x ∷ xs) → time x ≤ time k
  first_before x k xs t h = elim h [
    | inl e ↦ subst (λ z. time x ≤ time z) (sym e) (omega arith)
    | inr r ↦ (let z = behind_first x k xs t r in omega arith)
  ]

  pub last_behind : (x k : ℕ) (xs : List ℕ) → InTurn (x ∷ xs) → Has k (x ∷ xs) → time k ≤ time (slice_index (x ∷ xs) (length xs))
  last_behind x k [] t h = elim h [
    | inl e ↦ subst (λ z. time z ≤ time x) (sym e) (omega arith)
    | inr r ↦ absurd r
  ]
  last_behind x k (y ∷ ys) t h = elim h [
    | inl e ↦ subst (λ z. time z ≤ time (slice_index (y ∷ ys) (length ys))) (sym e) (let z = last_behind y y ys t.1 (inl (λ i. y)) in let w = t.0 in omega arith)
    | inr r ↦ last_behind y k ys t.1 r
  ]
