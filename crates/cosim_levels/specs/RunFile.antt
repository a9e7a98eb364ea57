-- What a run file gives to the parameters of a function, or the line of it that is refused: the first that is malformed, names no parameter, is doubled, or has a wrong number of values or one out of range; and where a parameter is missing, the one behind the last.
use Rattle.std.specs.Prelude.{◌≡◌, ◌==◌, Bool, true, false, ℕ, suc, ◌+◌, List, [], ◌∷◌, ◌++◌, length, map, is_some, nat_lt, not, ◌<◌, ◌-◌, ◌^◌, slice_index_or, slice_set, Option, Some, None, if◌then◌else◌}
use Rattle.std.specs.Str.Lines.{lines}
use Rattle.c_tree.specs.Tree.{ParamTree}
use Rattle.c_meaning.specs.Run.{is_array_parameter}
use Rattle.cosim_levels.specs.declared.row.Row.{Row}
use Rattle.cosim_levels.specs.declared.row.Row.TheVariants as row
use Rattle.cosim_levels.specs.declared.fault.RunFault.{RunFault}
use Rattle.cosim_levels.specs.declared.fault.RunFault.TheVariants as fault
use Rattle.cosim_levels.specs.Rows.{row_of}

-- what these rows give to parameter k, if they do
abbrev pub given_in : List Row → ℕ → Option (List ℕ)
given_in [] k = None
given_in (row.Nothing ∷ rows) k = given_in rows k
given_in (row.Gives j words ∷ rows) k = if j == k then Some words else given_in rows k
given_in (row.Refused ∷ rows) k = given_in rows k

-- a row behind these is refused: it says nothing that is allowed, or gives to a parameter a second time
abbrev pub is_refused : List Row → Row → Bool
is_refused before row.Nothing = false
is_refused before (row.Gives k words) = is_some (given_in before k)
is_refused before row.Refused = true

-- the number of the first refused row behind these, counted from 1 from the first of all
abbrev pub first_refused : List Row → List Row → Option ℕ
first_refused before [] = None
first_refused before (r ∷ rows) = if is_refused before r then Some (length before + 1) else first_refused (before ++ r ∷ []) rows

-- the numbers of scalars in order of the parameters, and the elements of arrays in their order
pub data Reading : Type 0 where
  inputs : (scalars : List ℕ) (arrays : List (List ℕ)) → Reading
  refused : (line : ℕ) → Reading

abbrev pub with_first : Bool → List ℕ → Reading → Reading
with_first true words (inputs scalars arrays) = inputs scalars (words ∷ arrays)
with_first false words (inputs scalars arrays) = inputs (words ++ scalars) arrays
with_first is_array words (refused line) = refused line

abbrev pub with_parameter : ℕ → ParamTree → Option (List ℕ) → Reading → Reading
with_parameter line p None others = refused line
with_parameter line p (Some words) others = with_first (is_array_parameter p) words others

-- what is given to the parameters from number k on, or this line where one of them is missing
abbrev pub inputs_from : ℕ → (ℕ → Option (List ℕ)) → ℕ → List ParamTree → Reading
inputs_from line given k [] = inputs [] []
inputs_from line given k (p ∷ ps) = with_parameter line p (given k) (inputs_from line given (suc k) ps)

abbrev pub reading_unless : Option ℕ → Reading → Reading
reading_unless None reading = reading
reading_unless (Some line) reading = refused line

abbrev pub rows_reading : List ParamTree → List Row → Reading
rows_reading ps rows = reading_unless (first_refused [] rows) (inputs_from (length rows + 1) (given_in rows) 0 ps)

abbrev pub rows_of : List ParamTree → List ℕ → List Row
rows_of ps bytes = map (row_of ps) (lines bytes)

-- a file of more than 16,777,216 bytes is refused at its first line
abbrev pub reading_of : List ParamTree → List ℕ → Reading
reading_of ps bytes = if nat_lt 16777216 (length bytes) then refused 1 else rows_reading ps (rows_of ps bytes)

-- the cause of a refusal; want of memory has none
abbrev pub IsCause : Reading → RunFault → Type 0
IsCause reading (fault.Line line) = reading ≡ refused line
IsCause reading fault.Memory = Unit {0}

-- ---- rows one after another, from what each of so many parameters was given before

abbrev pub is_taken : List (Option (List ℕ)) → Row → Bool
is_taken given row.Nothing = true
is_taken given (row.Gives k words) = not (is_some (slice_index_or given k None))
is_taken given row.Refused = false

abbrev pub given_row : Bool → List (Option (List ℕ)) → Row → List (Option (List ℕ))
given_row false given r = given
given_row true given row.Nothing = given
given_row true given (row.Gives k words) = slice_set given k (Some words)
given_row true given row.Refused = given

-- what parameters were given behind a row, which is taken or refused
abbrev pub behind_row : List (Option (List ℕ)) → Row → List (Option (List ℕ))
behind_row given r = given_row (is_taken given r) given r

-- so many parameters were given this by the rows
pub record AreGiven (n : ℕ) (rows : List Row) (given : List (Option (List ℕ))) : Type 0 where
  pub count : length given ≡ n
  pub each : (k : ℕ) → k < n → slice_index_or given k None ≡ given_in rows k

-- all rows were taken
pub record AreTaken (n : ℕ) (rows : List Row) (given : List (Option (List ℕ))) (count : ℕ) : Type 0 where
  pub taken : first_refused [] rows ≡ None
  pub counted : count ≡ length rows
  pub small : count < 2 ^ 32 - 1
  pub given_are : AreGiven n rows given

-- these numbers before others
abbrev pub with_front : List ℕ → List (List ℕ) → Reading → Reading
with_front scalars arrays (inputs more others) = inputs (scalars ++ more) (arrays ++ others)
with_front scalars arrays (refused line) = refused line
