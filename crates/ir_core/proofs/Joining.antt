-- Lists of lists of points, one after another.
use Rattle.std.proofs.Common.{◌≡◌, ◌∙◌, ◌++◌, List, [], ◌∷◌, map, ap, refl, sym}
use Rattle.std.proofs.lemmas.List.{append-nil, append_assoc, map-append}
use Rattle.ir_core.specs.Points.{Points, joined}

pub joined_more : (xs : List Points) (x : Points) → joined (xs ++ x ∷ []) ≡ joined xs ++ x
joined_more [] x = append-nil x
joined_more (y ∷ ys) x = ap (λ rest. y ++ rest) (joined_more ys x) ∙ sym (append_assoc y (joined ys) x)

pub joined_map_more : {A : Type 0} (f : A → Points) (xs : List A) (x : A) → joined (map f (xs ++ x ∷ [])) ≡ joined (map f xs) ++ f x
joined_map_more f [] x = append-nil (f x)
joined_map_more f (y ∷ ys) x = ap (λ rest. f y ++ rest) (joined_map_more f ys x) ∙ sym (append_assoc (f y) (joined (map f ys)) (f x))

pub ruleset joining = (joined_more, joined_map_more, append_assoc, append-nil)
