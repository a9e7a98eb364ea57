-- Lists that loops make.
use Rattle.std.proofs.Common.{◌≡◌, ℕ, zero, suc, ◌+◌, ◌<◌, ◌∙◌, sym, refl, ap, List, [], ◌∷◌, ◌++◌, map, length, get_or, take, replicate}
use Rattle.std.proofs.lemmas.List.{map_more}

-- a list of what is made of each item, and one more
pub pushed_map : {X Y : Type 0} (f : X → Y) (xs : List X) (i : ℕ) (x : X) (all new : List Y) (y : Y) → i < length xs → x ≡ get_or xs i x → all ≡ map f (take i xs) → y ≡ f x → new ≡ all ++ y ∷ []
    → new ≡ map f (take (i + 1) xs)
pushed_map f xs i x all new y lt is so_far made pushed =
    pushed ∙ (ap (λ l. l ++ y ∷ []) so_far ∙ (ap (λ z. map f (take i xs) ++ z ∷ []) (made ∙ ap f is) ∙ sym (map_more f xs i x lt)))

pub map_replicate : {X Y : Type 0} (f : X → Y) (n : ℕ) (x : X) → map f (replicate n x) ≡ replicate n (f x)
map_replicate f zero x = refl
map_replicate f (suc n) x = ap (λ ys. f x ∷ ys) (map_replicate f n x)
