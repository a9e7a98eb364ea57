-- Files and put bytes that are held in memory, where calls whose numbers are given beforehand fail.
use Rattle.std.specs.Prelude.{◌≡◌, ◌+◌, ◌-◌, ◌^◌, ◌==◌, ◌||◌, min, ℕ, Bool, List, [], ◌∷◌, Option, None, Some, if◌then◌else◌, is_none, is_some, ◌&&◌, ◌++◌}
use Rattle.std.specs.List.{list_any}
use Rattle.std.specs.Str.{bytes_eq}

-- the bytes of the first file of the list that has this name
abbrev pub file_named : List (List ℕ × List ℕ) → List ℕ → Option (List ℕ)
file_named [] name = None
file_named (file ∷ files) name = if bytes_eq file.0 name then Some file.1 else file_named files name

-- no file has the name of an earlier one
abbrev pub HasDistinctNames : List (List ℕ × List ℕ) → Type 0
HasDistinctNames [] = Unit {0}
HasDistinctNames (file ∷ files) = (file_named files file.0 ≡ None) × HasDistinctNames files

-- the files with these bytes under this name: in the place of the file that has it, and else at the end
abbrev pub with_file : List (List ℕ × List ℕ) → List ℕ → List ℕ → List (List ℕ × List ℕ)
with_file [] name bytes = (name, bytes) ∷ []
with_file (file ∷ files) name bytes = if bytes_eq file.0 name then (name, bytes) ∷ files else file ∷ with_file files name bytes

-- one more, where 64 bits have room
abbrev pub one_more : ℕ → ℕ
one_more n = min (n + 1) (2 ^ 64 - 1)

-- whether the call of this number is one that fails
abbrev pub is_due : List ℕ → ℕ → Bool
is_due fails call = list_any (λ n. n == call) fails

-- a count after a call, which rises where there was a fault
abbrev pub count_after : Bool → ℕ → ℕ
count_after fault n = if fault then one_more n else n

-- what a shelf in memory holds: its files, the numbers of the calls that fail, the next call's number, and the count of faults
pub record HeldFiles : Type 0 where
  pub files : List (List ℕ × List ℕ)
  pub fails : List ℕ
  pub calls : ℕ
  pub faults : ℕ

-- what a sink in memory holds: the bytes put so far, and the same of its calls
pub record HeldBytes : Type 0 where
  pub written : List ℕ
  pub fails : List ℕ
  pub calls : ℕ
  pub faults : ℕ

-- A read fails where the name is not there, which is no fault, and where its call is one that fails.
abbrev pub read_fails : HeldFiles → List ℕ → Bool
read_fails s name = is_none (file_named s.files name) || is_due s.fails s.calls

-- what the shelf holds after a read
abbrev pub after_read : HeldFiles → List ℕ → HeldFiles
after_read s name = record s {
  calls = one_more s.calls;
  faults = count_after (is_some (file_named s.files name) && is_due s.fails s.calls) s.faults;
}

-- what the shelf holds after a write that left these files
abbrev pub after_write : HeldFiles → List (List ℕ × List ℕ) → HeldFiles
after_write s files = record s {
  files = files;
  calls = one_more s.calls;
  faults = count_after (is_due s.fails s.calls) s.faults;
}

-- what the sink holds after a call to put these bytes, of which it kept some
abbrev pub after_put : HeldBytes → List ℕ → HeldBytes
after_put s kept = record s {
  written = s.written ++ kept;
  calls = one_more s.calls;
  faults = count_after (is_due s.fails s.calls) s.faults;
}
