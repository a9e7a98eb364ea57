-- The tokens up to the next line.
use Rattle.std.proofs.Common.{◌≡◌, ℕ, zero, suc, ◌+◌, ◌<◌, ◌∙◌, sym, refl, ap, subst, true, false, List, [], ◌∷◌, length, take, get_or, arith}
use Rattle.std.specs.Prelude.{◌&&◌, not}
use Rattle.std.proofs.lemmas.Bool.{and_parts}
use Rattle.c_token.specs.declared.token.Token.{Token}
use Rattle.c_token.specs.Replacement.{none_first}

pub none_first_more : (xs : List Token) (i : ℕ) (d : Token) → i < length xs → (get_or xs i d).first ≡ false → none_first (take i xs) ≡ true → none_first (take (i + 1) xs) ≡ true
none_first_more [] i d l f h = absurd (omega arith)
none_first_more (x ∷ xs) zero d l f h = rw f refl
none_first_more (x ∷ xs) (suc i) d l f h =
    let both = and_parts (not x.first) (none_first (take i xs)) h in
    let rest = none_first_more xs i d (omega arith) f both.1 in
    let step : suc i + 1 ≡ suc (i + 1) = omega arith in
    let whole : (not x.first && none_first (take (i + 1) xs)) ≡ true = ap (λ b. b && none_first (take (i + 1) xs)) both.0 ∙ rest in
    subst (λ n. none_first (take n (x ∷ xs)) ≡ true) (sym step) whole
