-- What words hold of the inputs of a program, and of its answer.
use Rattle.std.specs.Prelude.{◌≡◌, ℕ, ◌+◌, true, List, [], ◌∷◌, map, slice_get, Option, Some, None, if◌then◌else◌}
use Rattle.hls_base.specs.FileScope.{FileScope}
use Rattle.hls_base.specs.ArrayAddress.{addresses}
use Rattle.hls_base.specs.declared.number.VarId.{VarId}
use Rattle.hls_base.specs.declared.number.Kept.{Kept}
use Rattle.c_token.specs.declared.ctype.CType.{CType}
use Rattle.pieces.specs.Program.{ArrayTree, ExpandedTree}
use Rattle.c_meaning.specs.PieceRuns.Runs.{frame_of, variables_of, if_kept}
use Rattle.ir_core.specs.Bodies.{Words}
use Rattle.pass_runs.specs.LowerRuns.Holding.{IsThere}

-- the elements of an array of these lengths, row by row, in its memory
abbrev pub elements_at : List ℕ → (ℕ → ℕ) → List ℕ
elements_at lengths memory = map memory (addresses lengths)

-- those of the arrays that the host reaches, where the first of these arrays has the memory of this number
abbrev pub host_words : List ArrayTree → ℕ → (ℕ → ℕ → ℕ) → List (List ℕ)
host_words [] i memories = []
host_words (a ∷ rest) i memories = if a.host then elements_at a.lengths (memories i) ∷ host_words rest (i + 1) memories else host_words rest (i + 1) memories

-- those of the arrays that file scope keeps
abbrev pub kept_words : List ArrayTree → ℕ → (ℕ → ℕ → ℕ) → List (List ℕ)
kept_words [] i memories = []
kept_words (a ∷ rest) i memories = if_kept a.initial (elements_at a.lengths (memories i)) (kept_words rest (i + 1) memories)

abbrev pub words_in : List VarId → (ℕ → ℕ) → List ℕ
words_in variables words = map (λ v. words v.0) variables

abbrev pub file_words : ExpandedTree → Words → FileScope
file_words e t = record { scalars = words_in (variables_of e.kept) t.variables; arrays = kept_words e.arrays 0 t.memories }

-- The words are what the program is started with: its arguments, the elements of the arrays of the host, what file scope keeps, and the tables. There is nothing where there is no memory.
pub record Begins (e : ExpandedTree) (kept : FileScope) (scalars : List ℕ) (arrays : List (List ℕ)) (t : Words) : Type 0 where
  pub params : words_in e.params t.variables ≡ scalars
  pub hosts : host_words e.arrays 0 t.memories ≡ arrays
  pub file : file_words e t ≡ kept
  pub tables : (i : ℕ) (a : ArrayTree) (words : List ℕ) → slice_get e.arrays i ≡ Some a → a.table ≡ Some words → elements_at a.lengths (t.memories i) ≡ words
  pub nothing : (i : ℕ) → slice_get e.arrays i ≡ None → (address : ℕ) → t.memories i address ≡ 0

-- ---- programs

-- file scope keeps no array that the host reaches
abbrev pub HostsAreApart : List ArrayTree → Type 0
HostsAreApart arrays = (i : ℕ) (a : ArrayTree) → slice_get arrays i ≡ Some a → a.host ≡ true → a.initial ≡ None

-- A program has a variable of the type of its result, or neither.
abbrev pub ResultIsThere : List CType → Option CType → Option VarId → Type 0
ResultIsThere variables None None = Unit {0}
ResultIsThere variables (Some k) (Some v) = slice_get variables v.0 ≡ Some k
ResultIsThere variables ret result = ⊥

-- the scalars that file scope keeps are variables of the program
abbrev pub KeptAreThere : ExpandedTree → Type 0
KeptAreThere e = (i : ℕ) (k : Kept) → slice_get e.kept i ≡ Some k → IsThere (frame_of e) k.variable
