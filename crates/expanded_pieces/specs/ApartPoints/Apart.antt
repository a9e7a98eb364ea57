-- Lists in which nothing stands twice.
use Rattle.std.specs.Prelude.{◌≢◌, List, [], ◌∷◌}

-- it is none of these
abbrev pub IsAway : {A : Type 0} → A → List A → Type 0
IsAway x [] = Unit {0}
IsAway x (y ∷ ys) = (x ≢ y) × IsAway x ys

-- no two are the same
abbrev pub AreApart : {A : Type 0} → List A → Type 0
AreApart [] = Unit {0}
AreApart (x ∷ xs) = IsAway x xs × AreApart xs
