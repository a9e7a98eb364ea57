-- Inputs that fit an expanded program, and what its file scope keeps before its first run.
use Rattle.std.specs.Prelude.{◌≡◌, ◌<◌, ◌^◌, ℕ, Bool, true, false, List, [], ◌∷◌, length, map, slice_get, Option, Some, None}
use Rattle.hls_base.specs.FileScope.{FileScope}
use Rattle.hls_base.specs.ArrayAddress.{element_count}
use Rattle.hls_base.specs.declared.number.VarId.{VarId}
use Rattle.c_value.specs.Values.{width}
use Rattle.pieces.specs.Program.{ArrayTree, ExpandedTree}
use Rattle.c_meaning.specs.PieceRuns.Runs.{type_in, variables_of, if_kept}
use Rattle.ir_core.specs.FirstContents.{elements_or_none}
use Rattle.expand_runs.specs.Laws.{AreWords}

-- ---- what file scope keeps at first

abbrev pub initial_rows : List ArrayTree → List (List ℕ)
initial_rows [] = []
initial_rows (a ∷ rest) = if_kept a.initial (elements_or_none a.initial) (initial_rows rest)

abbrev pub first_file : ExpandedTree → FileScope
first_file e = record { scalars = map (λ k. k.value) e.kept; arrays = initial_rows e.arrays }

-- ---- inputs

-- a word of its type for each of these variables
abbrev pub FillVariables : ExpandedTree → List VarId → List ℕ → Type 0
FillVariables e [] words = words ≡ []
FillVariables e (v ∷ vs) [] = ⊥
FillVariables e (v ∷ vs) (x ∷ words) = (x < 2 ^ width (type_in e v)) × FillVariables e vs words

-- a word of its type for each element of the array
abbrev pub FillsArray : ArrayTree → List ℕ → Type 0
FillsArray a row = (length row ≡ element_count a.lengths) × AreWords a.kind row

abbrev pub FillsIfAny : ArrayTree → Option (List ℕ) → Type 0
FillsIfAny a None = Unit {0}
FillsIfAny a (Some row) = FillsArray a row

-- a row for each array that the host reaches; these come before all others
abbrev pub FillHosts : List ArrayTree → List (List ℕ) → Type 0
FillHosts [] rows = rows ≡ []
FillHosts (a ∷ arrays) [] = (a.host ≡ false) × FillHosts arrays []
FillHosts (a ∷ arrays) (row ∷ rows) = (a.host ≡ true) × FillsArray a row × FillHosts arrays rows

-- ---- programs

-- An array has its first contents from the host, or from its table, or from file scope, or from nowhere.
abbrev pub HasOneSource : Bool → Option (List ℕ) → Option (List ℕ) → Type 0
HasOneSource true None None = Unit {0}
HasOneSource true table initial = ⊥
HasOneSource false (Some table) (Some initial) = ⊥
HasOneSource false table initial = Unit {0}

pub record HasContents (a : ArrayTree) : Type 0 where
  pub source : HasOneSource a.host a.table a.initial
  pub table : FillsIfAny a a.table
  pub initial : FillsIfAny a a.initial

abbrev pub IsNotIn : VarId → List VarId → Type 0
IsNotIn v [] = Unit {0}
IsNotIn v (w ∷ ws) = (v.0 ≡ w.0 → ⊥) × IsNotIn v ws

abbrev pub Differ : List VarId → Type 0
Differ [] = Unit {0}
Differ (v ∷ vs) = IsNotIn v vs × Differ vs

abbrev pub AreApart : List VarId → List VarId → Type 0
AreApart [] ws = Unit {0}
AreApart (v ∷ vs) ws = IsNotIn v ws × AreApart vs ws

-- The parameters and the scalars that file scope keeps have variables of their own, and each array has contents that fill it, or none.
pub record HasFirstContents (e : ExpandedTree) : Type 0 where
  pub params : Differ e.params
  pub kept : Differ (variables_of e.kept)
  pub apart : AreApart (variables_of e.kept) e.params
  pub values : FillVariables e (variables_of e.kept) (map (λ k. k.value) e.kept)
  pub arrays : (i : ℕ) (a : ArrayTree) → slice_get e.arrays i ≡ Some a → HasContents a
