-- What is still to be put out while replacements are suspended for those inside them.
use Rattle.std.specs.Prelude.{◌≡◌, ℕ, ◌+◌, Bool, false, List, [], ◌∷◌, ◌++◌, slice_set}
use Rattle.c_token.specs.declared.token.Token.{Token}
use Rattle.c_token.specs.Replacement.{Table, StandsFor}
use Rattle.c_macro.specs.declared.expansion.Suspended.{Suspended}
use Rattle.c_macro.specs.Views.{visible}

-- The tokens that are left of a replacement stand for the beginning of the row. Behind it comes what is left of the replacement around it,
-- in which the macro that is replaced inside it is visible again. The suspended ones are listed from the inside out.
abbrev pub StillStandsFor : Table → List Bool → List Token → List Suspended → List Token → ℕ → Type 0
StillStandsFor macros hidden left [] row words = StandsFor (visible hidden macros) left row words
StillStandsFor macros hidden left (outer ∷ more) row words =
    (inner : List Token) × (rest : List Token) × (m : ℕ) × (n : ℕ) × StandsFor (visible hidden macros) left inner m
    × StillStandsFor macros (slice_set hidden outer.index false) outer.left.now more rest n × (row ≡ inner ++ rest) × (words ≡ m + n)

-- which macros are hidden once all that are suspended have ended
abbrev pub shown_again : List Bool → List Suspended → List Bool
shown_again hidden [] = hidden
shown_again hidden (outer ∷ more) = shown_again (slice_set hidden outer.index false) more
