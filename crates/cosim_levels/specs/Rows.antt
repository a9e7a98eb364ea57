-- What a line of a run file says: nothing where it is empty or begins with `#`, and else `NAME = V V ..`, with one or more spaces between words.
use Rattle.std.specs.Prelude.{◌==◌, ◌||◌, not, Bool, true, ℕ, suc, ◌-◌, List, [], ◌∷◌, length, filter, slice_index, codes, bytes_eq, map, ◌<◌, Option, Some, None, if◌then◌else◌}
use Rattle.std.specs.List.{slice_split}
use Rattle.std.specs.Borrow.{Bor}
use Rattle.hls_base.specs.ArrayAddress.{element_count}
use Rattle.c_tree.specs.Tree.{ObjectTree, ParamTree}
use Rattle.c_meaning.specs.Store.{lengths_in}
use Rattle.cosim_levels.specs.declared.row.Row.{Row}
use Rattle.cosim_levels.specs.declared.row.Row.TheVariants as row
use Rattle.cosim_levels.specs.Numerals.{bits_of_words}

abbrev pub is_blank : List ℕ → Bool
is_blank [] = true
is_blank (b ∷ bs) = b == 35

-- a space stands before the first word or behind the last
abbrev pub has_loose_space : List ℕ → Bool
has_loose_space line = (slice_index line 0 == 32) || (slice_index line (length line - 1) == 32)

-- the parts between spaces that are not empty
abbrev pub words_between : List ℕ → List (List ℕ)
words_between line = filter (λ part. not (length part == 0)) (slice_split (λ b. b == 32) line)

abbrev pub words_of : List ℕ → Option (List (List ℕ))
words_of line = if has_loose_space line then None else Some (words_between line)

-- the texts that these references point to
abbrev pub texts_of : List (Bor (List ℕ)) → List (List ℕ)
texts_of words = map (λ w. w.now) words

abbrev pub gives_or_refused : ℕ → Option (List ℕ) → Row
gives_or_refused k None = row.Refused
gives_or_refused k (Some words) = row.Gives k words

-- A scalar takes one number, and an array all its elements, row by row.
abbrev pub given_to : ℕ → ObjectTree → List (List ℕ) → Row
given_to k o values = if length values == element_count (lengths_in o) then gives_or_refused k (bits_of_words o.kind values) else row.Refused

-- these values for a name, where the parameters from number k on are these
abbrev pub given_by_name : ℕ → List ParamTree → List ℕ → List (List ℕ) → Row
given_by_name k [] name values = row.Refused
given_by_name k (p ∷ ps) name values = if bytes_eq p.object.name name then given_to k p.object values else given_by_name (suc k) ps name values

abbrev pub row_of_words : List ParamTree → Option (List (List ℕ)) → Row
row_of_words ps None = row.Refused
row_of_words ps (Some []) = row.Refused
row_of_words ps (Some (name ∷ [])) = row.Refused
row_of_words ps (Some (name ∷ sign ∷ values)) = if bytes_eq sign (codes "=") then given_by_name 0 ps name values else row.Refused

-- what a line says to these parameters
abbrev pub row_of : List ParamTree → List ℕ → Row
row_of ps line = if is_blank line then row.Nothing else row_of_words ps (words_of line)

-- a row gives to one of so many parameters, if to any
abbrev pub IsInside : ℕ → Row → Type 0
IsInside n row.Nothing = Unit {0}
IsInside n (row.Gives k words) = k < n
IsInside n row.Refused = Unit {0}
