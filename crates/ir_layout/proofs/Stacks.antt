-- The places that were noted, the nearest first.
use Rattle.std.proofs.Common.{◌≡◌, ◌∙◌, ◌<◌, ◌+◌, ℕ, List, [], ◌∷◌, ◌++◌, map, take, get_or, length, ap}
use Rattle.std.proofs.lemmas.List.{map-append, reverse-append, take_more}
use Rattle.std.specs.Prelude.{reverse}
use Rattle.ir_layout.specs.declared.flat.Landing.{Landing}
use Rattle.ir_layout.specs.Views.{landing_of, stacked}

pub stacked_more : (xs : List Landing) (x : Landing) → stacked (xs ++ x ∷ []) ≡ landing_of x ∷ stacked xs
stacked_more xs x = ap (λ l. reverse l) (map-append landing_of xs (x ∷ [])) ∙ reverse-append (map landing_of xs) (landing_of x ∷ [])

pub stacked_take : (xs : List Landing) (i : ℕ) (d : Landing) → i < length xs → stacked (take (i + 1) xs) ≡ landing_of (get_or xs i d) ∷ stacked (take i xs)
stacked_take xs i d h = ap stacked (take_more xs i d h) ∙ stacked_more (take i xs) (get_or xs i d)
