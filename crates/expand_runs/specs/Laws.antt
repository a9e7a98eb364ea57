-- What expansion keeps.
use Rattle.std.specs.Prelude.{◌≡◌, ℕ, ◌<◌, ◌^◌, List, [], ◌∷◌, length, slice_get, Option, Some, None, Bool, true, false, if◌then◌else◌}
use Rattle.hls_base.specs.FileScope.{FileScope}
use Rattle.hls_base.specs.ArrayAddress.{element_count}
use Rattle.c_token.specs.declared.ctype.CType.{CType}
use Rattle.c_value.specs.Values.{width}
use Rattle.c_meaning.specs.Run.{Answer, ended, undefined, running}
use Rattle.pieces.specs.Resolved.Core.{CoreObjectTree, FileObjectTree, CoreFunctionTree, CoreProgramTree}
use Rattle.c_meaning.specs.CoreRuns.Runs.{core_run, is_array, params_of}
use Rattle.c_meaning.specs.PieceRuns.Values.{Store}
use Rattle.c_meaning.specs.PieceRuns.Runs.{frame_of, pieces_answer}
use Rattle.c_expand.specs.Expansion.{expansion}
use Rattle.expand_runs.specs.Reading.{IsTyped}

-- ---- inputs

abbrev pub AreWords : CType → List ℕ → Type 0
AreWords k [] = Unit {0}
AreWords k (word ∷ words) = (word < 2 ^ width k) × AreWords k words

-- as many bit patterns of its type as the object has elements
abbrev pub FillsObject : CoreObjectTree → List ℕ → Type 0
FillsObject o words = (length words ≡ element_count o.lengths) × AreWords o.kind words

-- the first of two, or the second
abbrev pub OneOf : Bool → Type 0 → Type 0 → Type 0
OneOf true A B = A
OneOf false A B = B

-- a word for each scalar of these, and a row of words for each array, in their order
abbrev pub FillObjects : List CoreObjectTree → List ℕ → List (List ℕ) → Type 0
FillObjects [] scalars arrays = (scalars ≡ []) × (arrays ≡ [])
FillObjects (o ∷ os) scalars arrays =
    OneOf (is_array o)
    ((row : List ℕ) × (rows : List (List ℕ)) × (arrays ≡ row ∷ rows) × FillsObject o row × FillObjects os scalars rows)
    ((word : ℕ) × (words : List ℕ) × (scalars ≡ word ∷ words) × FillsObject o (word ∷ []) × FillObjects os words arrays)

-- the objects of file scope that are not const
abbrev pub kept_objects : List FileObjectTree → List CoreObjectTree
kept_objects [] = []
kept_objects (o ∷ os) = if o.object.constant then kept_objects os else o.object ∷ kept_objects os

abbrev pub params_in : Option CoreFunctionTree → List CoreObjectTree
params_in None = []
params_in (Some fn) = params_of fn

abbrev pub InputsFit : CoreProgramTree → FileScope → List ℕ → List (List ℕ) → Type 0
InputsFit p kept scalars arrays = FillObjects (kept_objects p.file) kept.scalars kept.arrays × FillObjects (params_in (slice_get p.functions p.top)) scalars arrays

-- ---- runs

abbrev pub IsDefined : Answer → Type 0
IsDefined (ended result arrays kept trace) = Unit {0}
IsDefined (undefined rule at) = ⊥
IsDefined running = Unit {0}

-- The pieces of the program have its answer wherever that is defined, for all inputs that fit, whatever numbers of their types the other variables and elements hold at first, and for every number of points.
abbrev pub KeepsRuns : CoreProgramTree → Type 0
KeepsRuns p = (first : Store) (kept : FileScope) (scalars : List ℕ) (arrays : List (List ℕ)) (n : ℕ) → IsTyped (frame_of (expansion p)) first → InputsFit p kept scalars arrays → IsDefined (core_run p kept scalars arrays n)
    → pieces_answer (expansion p) first kept scalars arrays n ≡ core_run p kept scalars arrays n
