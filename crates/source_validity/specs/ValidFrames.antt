-- Valid frames.
use Rattle.std.specs.Prelude.{◌≡◌, ◌≢◌, ◌≤◌, ◌<◌, ◌^◌, ℕ, true, List, [], ◌∷◌, length, slice_get, Some}
use Rattle.hls_base.specs.ArrayAddress.{address_bits}
use Rattle.hls_base.specs.declared.number.VarId.{VarId}
use Rattle.ir_core.specs.declared.cfg.Frame.{Frame}
use Rattle.ir_lower.specs.Frames.{frame_view}
use Rattle.pieces.specs.Program.{ArrayTree, ExpandedTree}
use Rattle.c_meaning.specs.PieceRuns.Runs.{frame_of}
use Rattle.pass_runs.specs.LowerRuns.Holding.{IsThere}
use Rattle.compile_steps.specs.Resets.{expanded_frame}
use Rattle.timed_pieces.specs.StartedWords.Contents.{KeptAreThere}
use Rattle.timed_pieces.specs.StartedWords.FirstWords.{HasFirstContents}
use Rattle.program_validity.specs.Frames.{is_frame}

-- the parameters are variables of the program
abbrev pub ParametersAreThere : ExpandedTree → Type 0
ParametersAreThere e = (i : ℕ) (v : VarId) → slice_get e.params i ≡ Some v → IsThere (frame_of e) v

abbrev pub LengthsFit : List ℕ → Type 0
LengthsFit [] = Unit {0}
LengthsFit (len ∷ lengths) = (1 ≤ len) × (len ≤ 65536) × LengthsFit lengths

-- There is a length at least, each is from 1 to 65,536, and an address has 16 bits at most.
pub record IsDimensioned (a : ArrayTree) : Type 0 where
  pub some : a.lengths ≢ []
  pub lengths : LengthsFit a.lengths
  pub address : address_bits a.lengths ≤ 16

abbrev pub ArraysAreDimensioned : ExpandedTree → Type 0
ArraysAreDimensioned e = (i : ℕ) (a : ArrayTree) → slice_get e.arrays i ≡ Some a → IsDimensioned a

-- There is a number for each variable and each memory.
pub record NamesAreFew (f : Frame) : Type 0 where
  pub variables : length f.variables.items < 2 ^ 32
  pub memories : length f.memories.items < 2 ^ 32

-- What stands beside the blocks of an expanded program is valid.
abbrev pub ExpandedFramesAreValid : Type 0
ExpandedFramesAreValid = (e : ExpandedTree) (f : Frame) → frame_view f ≡ expanded_frame e → HasFirstContents e → KeptAreThere e → ParametersAreThere e → ArraysAreDimensioned e → NamesAreFew f → is_frame f ≡ true
