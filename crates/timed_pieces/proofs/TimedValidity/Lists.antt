-- Tests that agree on each element agree on lists.
use Rattle.std.proofs.Common.{◌≡◌, ◌∙◌, refl, sym, ap, ap₂, Bool, ◌&&◌, List, [], ◌∷◌, length, map}
use Rattle.std.specs.List.{list_all}
use Rattle.std.proofs.lemmas.List.{length-map}

pub both_same : {a b c d : Bool} → a ≡ b → c ≡ d → (a && c) ≡ (b && d)
both_same e f = ap₂ (λ (x : Bool) (y : Bool). x && y) e f

pub all_same : {A : Type 0} (p q : A → Bool) → ((x : A) → p x ≡ q x) → (xs : List A) → list_all p xs ≡ list_all q xs
all_same p q h [] = refl
all_same p q h (x ∷ xs) = both_same (h x) (all_same p q h xs)

-- what is asked of each element, asked of what a function makes of it
pub all_mapped : {A B : Type 0} (p : A → Bool) (q : B → Bool) (f : A → B) → ((x : A) → p x ≡ q (f x)) → (xs : List A) → list_all p xs ≡ list_all q (map f xs)
all_mapped p q f h [] = refl
all_mapped p q f h (x ∷ xs) = both_same (h x) (all_mapped p q f h xs)

-- lists of which functions make the same are as long
pub same_length : {A B C : Type 0} (f : A → C) (g : B → C) (xs : List A) (ys : List B) → map f xs ≡ map g ys → length xs ≡ length ys
same_length f g xs ys e = sym (length-map xs f) ∙ (ap length e ∙ length-map ys g)
