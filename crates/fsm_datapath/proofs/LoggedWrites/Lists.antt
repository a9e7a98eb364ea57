-- Lists that are mapped and joined.
use Rattle.std.proofs.Common.{◌≡◌, ℕ, zero, suc, ◌+◌, ◌<◌, ◌≤◌, ◌==◌, Bool, true, false, cond, List, [], ◌∷◌, ◌++◌, map, filter, flat_map, refl, sym, ap, ap₂, ◌∙◌, subst, append-nil, inl, inr, arith}
use Rattle.std.specs.Prelude.{slice_get, Some}
use Rattle.std.specs.List.{enumerate_from, range_with_len}
use Rattle.std.proofs.lemmas.Bool.{cases_Bool, eq-eqb, eqb-true, ne_eqb, true≢false}

pub flat_same : {A B : Type 0} (f g : A → List B) (xs : List A) → ((x : A) → f x ≡ g x) → flat_map f xs ≡ flat_map g xs
flat_same f g [] h = refl
flat_same f g (x ∷ xs) h = ap₂ (λ a b. a ++ b) (h x) (flat_same f g xs h)

pub flat_none : {A B : Type 0} (f : A → List B) (xs : List A) → ((x : A) → f x ≡ []) → flat_map f xs ≡ []
flat_none f [] h = refl
flat_none f (x ∷ xs) h = ap₂ (λ a b. a ++ b) (h x) (flat_none f xs h)

-- the same for all that are numbered
pub numbered_same : {A B : Type 0} (f g : ℕ × A → List B) (k : ℕ) (xs : List A) → ((j : ℕ) (x : A) → slice_get xs j ≡ Some x → f (k + j, x) ≡ g (k + j, x))
    → flat_map f (enumerate_from k xs) ≡ flat_map g (enumerate_from k xs)
numbered_same f g k [] h = refl
numbered_same f g k (x ∷ xs) h =
    let here : k + 0 ≡ k = omega arith in
    ap₂ (λ a b. a ++ b) (subst (λ (n : ℕ). f (n, x) ≡ g (n, x)) here (h 0 x refl))
    (numbered_same f g (k + 1) xs (λ j y e. let next : k + suc j ≡ k + 1 + j = omega arith in subst (λ (n : ℕ). f (n, y) ≡ g (n, y)) next (h (suc j) y e)))

pub numbered_none : {A B : Type 0} (f : ℕ × A → List B) (k : ℕ) (xs : List A) → ((j : ℕ) (x : A) → slice_get xs j ≡ Some x → f (k + j, x) ≡ [])
    → flat_map f (enumerate_from k xs) ≡ []
numbered_none f k xs h = numbered_same f (λ n. []) k xs h ∙ flat_none (λ n. []) (enumerate_from k xs) (λ n. refl)

-- only one gives anything
pub numbered_one : {A B : Type 0} (f : ℕ × A → List B) (k i : ℕ) (xs : List A) (x : A) → slice_get xs i ≡ Some x
    → ((j : ℕ) (y : A) → slice_get xs j ≡ Some y → (j ≡ i → ⊥) → f (k + j, y) ≡ []) → flat_map f (enumerate_from k xs) ≡ f (k + i, x)
numbered_one f k i [] x at_ h = absurd (cc)
numbered_one f k zero (y ∷ ys) x at_ h =
    let same : y ≡ x = cc in
    let here : k ≡ k + 0 = omega arith in
    ap₂ (λ a b. a ++ b) (ap₂ (λ (n : ℕ) z. f (n, z)) here same)
    (numbered_none f (k + 1) ys (λ j z e. let next : k + suc j ≡ k + 1 + j = omega arith in subst (λ (n : ℕ). f (n, z) ≡ []) next (h (suc j) z e (λ s. absurd (omega (arith, s)))))) ∙ append-nil (f (k + 0, x))
numbered_one f k (suc i) (y ∷ ys) x at_ h =
    let here : k + 0 ≡ k = omega arith in
    let last : k + 1 + i ≡ k + suc i = omega arith in
    ap₂ (λ a b. a ++ b) (subst (λ (n : ℕ). f (n, y) ≡ []) here (h 0 y refl (λ s. absurd (omega (arith, s)))))
    (numbered_one f (k + 1) i ys x at_ (λ j z e apart. let next : k + suc j ≡ k + 1 + j = omega arith in
    subst (λ (n : ℕ). f (n, z) ≡ []) next (h (suc j) z e (λ s. apart (omega (arith, s)))))
    ∙ ap (λ (n : ℕ). f (n, x)) last)

-- from 0 on
pub all_same : {A B : Type 0} (f g : ℕ × A → List B) (xs : List A) → ((j : ℕ) (x : A) → slice_get xs j ≡ Some x → f (j, x) ≡ g (j, x))
    → flat_map f (enumerate_from 0 xs) ≡ flat_map g (enumerate_from 0 xs)
all_same f g xs h = numbered_same f g 0 xs (λ j x e. let n : j ≡ 0 + j = omega arith in subst (λ (m : ℕ). f (m, x) ≡ g (m, x)) n (h j x e))

pub all_but_one : {A B : Type 0} (f : ℕ × A → List B) (i : ℕ) (xs : List A) (x : A) → slice_get xs i ≡ Some x
    → ((j : ℕ) (y : A) → slice_get xs j ≡ Some y → (j ≡ i → ⊥) → f (j, y) ≡ []) → flat_map f (enumerate_from 0 xs) ≡ f (i, x)
all_but_one f i xs x at_ h =
    let last : 0 + i ≡ i = omega arith in
    numbered_one f 0 i xs x at_ (λ j y e apart. let n : j ≡ 0 + j = omega arith in subst (λ (m : ℕ). f (m, y) ≡ []) n (h j y e apart)) ∙ ap (λ (m : ℕ). f (m, x)) last

-- ---- numbers in a row

pub range_none : {B : Type 0} (f : ℕ → List B) (a n : ℕ) → ((m : ℕ) → a ≤ m → m < a + n → f m ≡ []) → flat_map f (range_with_len a n) ≡ []
range_none f a zero h = refl
range_none f a (suc n) h =
    ap₂ (λ x y. x ++ y) (h a (omega arith) (omega arith)) (range_none f (a + 1) n (λ m low high. h m (omega (arith, low)) (omega (arith, high))))

pub range_one : {B : Type 0} (f : ℕ → List B) (a n k : ℕ) → k < n → ((m : ℕ) → (m ≡ a + k → ⊥) → f m ≡ []) → flat_map f (range_with_len a n) ≡ f (a + k)
range_one f a zero k lt h = absurd (omega (arith, lt))
range_one f a (suc n) zero lt h =
    let here : a ≡ a + 0 = omega arith in
    ap₂ (λ x y. x ++ y) (ap f here) (range_none f (a + 1) n (λ m low high. h m (λ s. absurd (omega (arith, s, low))))) ∙ append-nil (f (a + 0))
range_one f a (suc n) (suc k) lt h =
    let last : a + 1 + k ≡ a + suc k = omega arith in
    ap₂ (λ x y. x ++ y) (h a (λ s. absurd (omega (arith, s)))) (range_one f (a + 1) n k (omega (arith, lt)) (λ m apart. h m (λ s. apart (omega (arith, s)))) ∙ ap f last)

-- ---- those that pass a test

pub flat_kept : {A B : Type 0} (f : A → List B) (test : A → Bool) (xs : List A) → flat_map f (filter test xs) ≡ flat_map (λ x. cond (test x) (f x) []) xs
flat_kept f test [] = refl
flat_kept f test (x ∷ xs) = at_first (test x) (flat_kept f test xs)
  where
    at_first : (b : Bool) → flat_map f (filter test xs) ≡ flat_map (λ x. cond (test x) (f x) []) xs
        → flat_map f (cond b (x ∷ filter test xs) (filter test xs)) ≡ cond b (f x) [] ++ flat_map (λ x. cond (test x) (f x) []) xs
    at_first true rest = ap (λ l. f x ++ l) rest
    at_first false rest = rest

pub map_kept : {A B : Type 0} (f : A → B) (test : A → Bool) (xs : List A) → map f (filter test xs) ≡ flat_map (λ x. cond (test x) (f x ∷ []) []) xs
map_kept f test [] = refl
map_kept f test (x ∷ xs) = at_first (test x) (map_kept f test xs)
  where
    at_first : (b : Bool) → map f (filter test xs) ≡ flat_map (λ x. cond (test x) (f x ∷ []) []) xs
        → map f (cond b (x ∷ filter test xs) (filter test xs)) ≡ cond b (f x ∷ []) [] ++ flat_map (λ x. cond (test x) (f x ∷ []) []) xs
    at_first true rest = ap (λ l. f x ∷ l) rest
    at_first false rest = rest

pub turned : (a b : ℕ) → (a == b) ≡ (b == a)
turned a b = elim (cases_Bool (a == b)) [
  | inl e ↦ e ∙ sym (eq-eqb b a (sym (eqb-true a b e)))
  | inr e ↦ e ∙ sym (ne_eqb b a (λ s. absurd (true≢false (sym (eq-eqb a b (sym s)) ∙ e))))
]

-- ---- tests

pub cond_same : {A : Type 0} (b : Bool) (x : A) → cond b x x ≡ x
cond_same true x = refl
cond_same false x = refl

-- one test before another, which only passes one number
pub before_other : {A : Type 0} (f : ℕ → Bool) (v m : ℕ) (l : List A) → cond (f m) (cond (v == m) l []) [] ≡ cond (f v) (cond (m == v) l []) []
before_other f v m l = elim (cases_Bool (m == v)) [
  | inl e ↦
      let same : m ≡ v = eqb-true m v e in
      ap₂ (λ a b. cond a (cond b l []) []) (ap f same) (turned v m)
  | inr e ↦
      ap (λ b. cond (f m) (cond b l []) []) (turned v m ∙ e) ∙ (cond_same (f m) [] ∙ sym (ap (λ b. cond (f v) (cond b l []) []) e ∙ cond_same (f v) []))
]

pub flat_cond : {A B : Type 0} (b : Bool) (f : A → List B) (xs : List A) → flat_map (λ x. cond b (f x) []) xs ≡ cond b (flat_map f xs) []
flat_cond true f xs = refl
flat_cond false f xs = flat_none (λ x. []) xs (λ x. refl)
