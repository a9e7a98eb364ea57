-- A list from an item on.
use Rattle.std.proofs.Common.{◌≡◌, ℕ, zero, suc, ◌<◌, List, [], ◌∷◌, drop, map, length, get_or, sym, ap, subst, ◌∙◌, arith}

next : {A : Type 0} (f : A → List ℕ) (xs : List A) (i : ℕ) (x : A) (b : List ℕ) → i < length xs → x ≡ get_or xs i x → b ≡ f x → map f (drop i xs) ≡ b ∷ map f (drop (suc i) xs)
next f [] i x b lt e g = absurd (omega arith)
next f (y ∷ ys) zero x b lt e g = ap (λ z. z ∷ map f ys) (sym (g ∙ ap f e))
next f (y ∷ ys) (suc i) x b lt e g = next f ys i x b (omega arith) e g

pub behind : {A : Type 0} (f : A → List ℕ) (xs : List A) (i j : ℕ) (x : A) (b : List ℕ) → j ≡ suc i → i < length xs → x ≡ get_or xs i x → b ≡ f x → map f (drop i xs) ≡ b ∷ map f (drop j xs)
behind f xs i j x b s lt e g = subst (λ k. map f (drop i xs) ≡ b ∷ map f (drop k xs)) (sym s) (next f xs i x b lt e g)
