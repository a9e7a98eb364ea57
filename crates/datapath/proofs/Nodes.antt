-- Tests over all nodes of a program.
use Rattle.std.proofs.Common.{◌≡◌, ℕ, zero, suc, ◌+◌, Bool, true, false, List, [], ◌∷◌, Some, refl, ap, ◌∙◌, subst, arith}
use Rattle.std.specs.Prelude.{slice_get}
use Rattle.std.specs.List.{list_any, enumerate_from}
use Rattle.std.proofs.lemmas.Bool.{or_from, or_left, or_right}

-- no node passes the test
pub none_from : {X : Type 0} (f : ℕ × X → Bool) (k : ℕ) (xs : List X) → ((j : ℕ) (x : X) → slice_get xs j ≡ Some x → f (k + j, x) ≡ false)
    → list_any f (enumerate_from k xs) ≡ false
none_from f k [] h = refl
none_from f k (x ∷ xs) h =
    let here : k + 0 ≡ k = omega arith in
    or_from (f (k, x)) (list_any f (enumerate_from (k + 1) xs)) (subst (λ (n : ℕ). f (n, x) ≡ false) here (h 0 x refl))
    (none_from f (k + 1) xs (λ j y e. let next : k + suc j ≡ k + 1 + j = omega arith in subst (λ (n : ℕ). f (n, y) ≡ false) next (h (suc j) y e)))

pub none_passes : {X : Type 0} (f : ℕ × X → Bool) (xs : List X) → ((j : ℕ) (x : X) → slice_get xs j ≡ Some x → f (j, x) ≡ false) → list_any f (enumerate_from 0 xs) ≡ false
none_passes f xs h = none_from f 0 xs (λ j x e. let same : j ≡ 0 + j = omega arith in subst (λ (n : ℕ). f (n, x) ≡ false) same (h j x e))

-- node j passes it
pub some_from : {X : Type 0} (f : ℕ × X → Bool) (k j : ℕ) (xs : List X) (x : X) → slice_get xs j ≡ Some x → f (k + j, x) ≡ true → list_any f (enumerate_from k xs) ≡ true
some_from f k j [] x at_ passes = absurd (cc)
some_from f k zero (y ∷ ys) x at_ passes =
    let same : y ≡ x = cc in
    let here : k + 0 ≡ k = omega arith in
    or_left (f (k, y)) _ (ap (λ z. f (k, z)) same ∙ subst (λ (n : ℕ). f (n, x) ≡ true) here passes)
some_from f k (suc j) (y ∷ ys) x at_ passes =
    let next : k + suc j ≡ k + 1 + j = omega arith in
    or_right (f (k, y)) _ (some_from f (k + 1) j ys x at_ (subst (λ (n : ℕ). f (n, x) ≡ true) next passes))

pub some_passes : {X : Type 0} (f : ℕ × X → Bool) (j : ℕ) (xs : List X) (x : X) → slice_get xs j ≡ Some x → f (j, x) ≡ true → list_any f (enumerate_from 0 xs) ≡ true
some_passes f j xs x at_ passes = let same : j ≡ 0 + j = omega arith in some_from f 0 j xs x at_ (subst (λ (n : ℕ). f (n, x) ≡ true) same passes)
