-- Tests of all elements of a list, and of all pairs.
use Rattle.std.proofs.Common.{◌≡◌, ℕ, zero, suc, ◌+◌, ◌<◌, ◌∙◌, sym, refl, ap, ap₂, Bool, true, false, ◌&&◌, List, [], ◌∷◌, length, drop, drop-cons, get_or, Some, arith}
use Rattle.std.specs.Prelude.{slice_get}
use Rattle.std.specs.List.{list_all}
use Rattle.std.proofs.lemmas.Bool.{and_parts, and_from}
use Rattle.std.proofs.lemmas.List.Folds.{list_all-append}
use Rattle.dep_graph.specs.Dependences.{gather}
use Rattle.program_validity.proofs.WellTimed.Lists.{some_same, no_some}

pub and_true : (b : Bool) → (b && true) ≡ b
and_true true = refl
and_true false = refl

pub all_same : {A : Type 0} (p q : A → Bool) (xs : List A) → ((x : A) → p x ≡ q x) → list_all p xs ≡ list_all q xs
all_same p q [] h = refl
all_same p q (x ∷ xs) h = ap₂ (λ a b. a && b) (h x) (all_same p q xs h)

pub all_gather : {A B : Type 0} (p : B → Bool) (f : A → List B) (xs : List A) → list_all p (gather f xs) ≡ list_all (λ x. list_all p (f x)) xs
all_gather p f [] = refl
all_gather p f (x ∷ xs) = list_all-append p (f x) (gather f xs) ∙ ap (λ b. list_all p (f x) && b) (all_gather p f xs)

pub all_get : {A : Type 0} (p : A → Bool) (xs : List A) (k : ℕ) (x : A) → list_all p xs ≡ true → slice_get xs k ≡ Some x → p x ≡ true
all_get p [] k x h e = absurd (no_some e)
all_get p (y ∷ ys) zero x h e = ap p (sym (some_same e)) ∙ (and_parts (p y) (list_all p ys) h).0
all_get p (y ∷ ys) (suc k) x h e = all_get p ys k x (and_parts (p y) (list_all p ys) h).1 e

pub all_from : {A : Type 0} (p : A → Bool) (xs : List A) → ((k : ℕ) (x : A) → slice_get xs k ≡ Some x → p x ≡ true) → list_all p xs ≡ true
all_from p [] h = refl
all_from p (x ∷ xs) h = and_from (p x) (list_all p xs) (h zero x refl) (all_from p xs (λ k y e. h (suc k) y e))

four : (a b c d : Bool) → ((a && b) && (c && d)) ≡ ((a && c) && (b && d))
four true true c d = (and_same c d)
  where
    and_same : (c d : Bool) → (c && d) ≡ (c && d)
    and_same c d = refl
four true false true d = refl
four true false false d = refl
four false b c d = refl

pub all_both : {A : Type 0} (p q : A → Bool) (xs : List A) → list_all (λ x. p x && q x) xs ≡ (list_all p xs && list_all q xs)
all_both p q [] = refl
all_both p q (x ∷ xs) = ap (λ b. (p x && q x) && b) (all_both p q xs) ∙ four (p x) (q x) (list_all p xs) (list_all q xs)

-- ---- pairs

-- each element and each later one
abbrev pub each_pair : {A : Type 0} → (A → A → Bool) → List A → Bool
each_pair p [] = true
each_pair p (x ∷ xs) = list_all (p x) xs && each_pair p xs

pub pair_at : {A : Type 0} (p : A → A → Bool) (xs : List A) (k n : ℕ) (x y : A) → each_pair p xs ≡ true → k < n → slice_get xs k ≡ Some x → slice_get xs n ≡ Some y → p x y ≡ true
pair_at p [] k n x y h lt e f = absurd (no_some e)
pair_at p (z ∷ zs) zero zero x y h lt e f = absurd (omega arith)
pair_at p (z ∷ zs) zero (suc n) x y h lt e f = ap (λ w. p w y) (sym (some_same e)) ∙ all_get (p z) zs n y (and_parts (list_all (p z) zs) (each_pair p zs) h).0 f
pair_at p (z ∷ zs) (suc k) zero x y h lt e f = absurd (omega arith)
pair_at p (z ∷ zs) (suc k) (suc n) x y h lt e f = pair_at p zs k n x y (and_parts (list_all (p z) zs) (each_pair p zs) h).1 (omega arith) e f

pub pairs_from : {A : Type 0} (p : A → A → Bool) (xs : List A) → ((k n : ℕ) (x y : A) → k < n → slice_get xs k ≡ Some x → slice_get xs n ≡ Some y → p x y ≡ true) → each_pair p xs ≡ true
pairs_from p [] h = refl
pairs_from p (x ∷ xs) h =
    and_from (list_all (p x) xs) (each_pair p xs) (all_from (p x) xs (λ n y e. h zero (suc n) x y (omega arith) refl e)) (pairs_from p xs (λ k n y z lt e f. h (suc k) (suc n) y z (omega arith) e f))

-- all ordered pairs, where an element passes with itself
abbrev pub square : {A : Type 0} → (A → A → Bool) → List A → Bool
square p xs = list_all (λ x. list_all (p x) xs) xs

five : (e a b s : Bool) → e ≡ true → ((e && a) && (b && s)) ≡ ((a && b) && s)
five true true b s h = refl
five true false b s h = refl
five false a b s h = absurd (cc)

pub square_pairs : {A : Type 0} (p : A → A → Bool) (xs : List A) → ((x : A) → p x x ≡ true) → square p xs ≡ each_pair (λ x y. p x y && p y x) xs
square_pairs p [] h = refl
square_pairs p (x ∷ xs) h =
    ap (λ b. (p x x && list_all (p x) xs) && b) (all_both (λ y. p y x) (λ y. list_all (p y) xs) xs ∙ ap (λ b. list_all (λ y. p y x) xs && b) (square_pairs p xs h))
    ∙ five (p x x) (list_all (p x) xs) (list_all (λ y. p y x) xs) (each_pair (λ y z. p y z && p z y) xs) (h x)
    ∙ ap (λ b. b && each_pair (λ y z. p y z && p z y) xs) (sym (all_both (p x) (λ y. p y x) xs))

-- ---- up to an element

pub all_stops : {A : Type 0} (p : A → Bool) (xs : List A) (i : ℕ) (x : A) → i < length xs → x ≡ get_or xs i x → p x ≡ false → false ≡ list_all p (drop i xs)
all_stops p xs i x lt e h = sym (ap (list_all p) (drop-cons xs i x lt) ∙ ap (λ b. b && list_all p (drop (suc i) xs)) (ap p (sym e) ∙ h))

pub all_more : {A : Type 0} (p : A → Bool) (xs : List A) (i : ℕ) (x : A) → i < length xs → x ≡ get_or xs i x → p x ≡ true → list_all p (drop (i + 1) xs) ≡ list_all p (drop i xs)
all_more p xs i x lt e h =
    let next : i + 1 ≡ suc i = omega arith in
    ap (λ k. list_all p (drop k xs)) next ∙ sym (ap (list_all p) (drop-cons xs i x lt) ∙ ap (λ b. b && list_all p (drop (suc i) xs)) (ap p (sym e) ∙ h))
