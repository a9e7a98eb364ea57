-- Words that show a store, and how control leaves on either side.
use Rattle.std.specs.Prelude.{◌≡◌, ℕ, Bool, false, slice_get, Some}
use Rattle.hls_base.specs.declared.number.VarId.{VarId}
use Rattle.c_token.specs.declared.ctype.CType.{CType}
use Rattle.c_meaning.specs.PieceRuns.Values.{Store, lengths_in}
use Rattle.c_meaning.specs.PieceRuns.Pieces.{Frame}
use Rattle.ir_core.specs.Bodies.{Words}
use Rattle.pass_runs.specs.LowerRuns.OperatorWords.Words.{IsWord}
use Rattle.pass_runs.specs.LowerRuns.Showing.{ArraysShown, AreShort}

-- The variables that are not hidden hold the words of their numbers, and memories those of the elements.
pub record Holds (f : Frame) (hidden : ℕ → Bool) (s : Store) (t : Words) : Type 0 where
  pub variables : (i : VarId) (k : CType) → slice_get f.variables i.0 ≡ Some k → hidden i.0 ≡ false → IsWord k (s.variables i.0) (t.variables i.0)
  pub arrays : ArraysShown f t.memories s.elements

-- no variable is hidden
abbrev pub none_hidden : ℕ → Bool
none_hidden i = false

-- no array has a length above 65,536
abbrev pub ArraysAreShort : Frame → Type 0
ArraysAreShort f = (a : ℕ) → AreShort (lengths_in (slice_get f.arrays a))

-- there is such a variable
abbrev pub IsThere : Frame → VarId → Type 0
IsThere f name = (k : CType) × (slice_get f.variables name.0 ≡ Some k)
