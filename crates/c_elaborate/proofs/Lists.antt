-- Lists that are made item by item.
use Rattle.std.proofs.Common.{◌≡◌, ℕ, zero, suc, ◌+◌, ◌<◌, ◌≤◌, ◌∙◌, sym, refl, ap, List, [], ◌∷◌, ◌++◌, map, drop, length, get_or, append_assoc, append-nil, arith}
use Rattle.std.proofs.Math.ListN.{drop_of_length-le}
use Rattle.std.proofs.lemmas.List.{map-append}

pub dropped : {B : Type 0} (args : List B) (i : ℕ) (arg : B) → i < length args → arg ≡ get_or args i arg → drop i args ≡ arg ∷ drop (i + 1) args
dropped [] i arg lt at = absurd (omega arith)
dropped (y ∷ ys) zero arg lt at = ap (λ z. z ∷ ys) (sym at)
dropped (y ∷ ys) (suc i) arg lt at =
    dropped ys i arg (omega arith) at ∙ ap (λ n. arg ∷ drop n (y ∷ ys)) (let e : suc (i + 1) ≡ suc i + 1 = omega arith in e)

-- One more is done.
pub pushed : {A B C : Type 0} (f : A → C) (g : B → C) (xs new : List A) (args : List B) (i : ℕ) (x : A) (arg : B) → new ≡ xs ++ x ∷ [] → i < length args → arg ≡ get_or args i arg → f x ≡ g arg
    → map f xs ++ map g (drop i args) ≡ map g args → map f new ++ map g (drop (i + 1) args) ≡ map g args
pushed f g xs new args i x arg is lt at same h =
    ap (λ l. map f l ++ map g (drop (i + 1) args)) is
    ∙ (ap (λ l. l ++ map g (drop (i + 1) args)) (map-append f xs (x ∷ []))
    ∙ (append_assoc (map f xs) (f x ∷ []) (map g (drop (i + 1) args))
    ∙ (ap (λ y. map f xs ++ y ∷ map g (drop (i + 1) args)) same ∙ (ap (λ l. map f xs ++ map g l) (sym (dropped args i arg lt at)) ∙ h))))

-- All are done.
pub finished : {A B C : Type 0} (f : A → C) (g : B → C) (xs : List A) (args : List B) (i : ℕ) → length args ≤ i → map f xs ++ map g (drop i args) ≡ map g args → map f xs ≡ map g args
finished f g xs args i le h = sym (append-nil (map f xs)) ∙ (ap (λ l. map f xs ++ map g l) (sym (drop_of_length-le args le)) ∙ h)
