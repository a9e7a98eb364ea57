-- Lists that are open within one another, the one that was opened last first.
use Rattle.std.specs.Prelude.{List, [], ◌∷◌, ◌++◌}

abbrev pub head_or : {A : Type 0} → A → List A → A
head_or a [] = a
head_or a (x ∷ xs) = x

abbrev pub tail : {A : Type 0} → List A → List A
tail [] = []
tail (x ∷ xs) = xs

-- the numbers or arguments that are under way
abbrev pub latest : {A : Type 0} → List (List A) → List A
latest xss = head_or [] xss

abbrev pub one_more : {A : Type 0} → A → List (List A) → List (List A)
one_more x xss = (latest xss ++ x ∷ []) ∷ tail xss
