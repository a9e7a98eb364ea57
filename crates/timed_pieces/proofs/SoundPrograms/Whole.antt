-- Programs that are laid out from fine pieces are sound.
use Rattle.std.specs.Prelude.{◌≤◌, slice_get}
use Rattle.std.proofs.Common.{ℕ, zero, suc, sym, subst, List, [], ◌∷◌, map}
use Rattle.pieces.specs.Program.{ArrayTree}
use Rattle.ir_core.specs.Bodies.{Shapes}
use Rattle.c_meaning.specs.PieceRuns.Values.{lengths_in}
use Rattle.pass_runs.specs.LowerRuns.Suits.{scope_of}
use Rattle.pass_runs.specs.LowerRuns.Showing.{AreShort}
use Rattle.std.specs.Prelude.{Bool, Option}
use Rattle.hls_base.specs.declared.number.VarId.{VarId}
use Rattle.hls_base.specs.declared.point.Point.{Point}
use Rattle.pieces.specs.Trees.{PieceTrees}
use Rattle.c_meaning.specs.PieceRuns.Pieces.{Frame}
use Rattle.ir_core.specs.declared.cfg.Cfg.{Cfg}
use Rattle.ir_core.specs.declared.stamp.Untimed.{Untimed}
use Rattle.sound_trees.specs.Subscripts.{PiecesSubscriptsFit}
use Rattle.timed_pieces.specs.FlatRuns.{Choice, IsFine, IsUnfused}
use Rattle.timed_pieces.proofs.FusedPrograms.Whole.{fused_sound}
use Rattle.clock_runs.specs.Premises.{Each, IsSoundNode, IsSoundProgram}
use Rattle.timed_pieces.proofs.Whole.{clocked}
use Rattle.sound_trees.proofs.Whole as trees
use Rattle.timed_pieces.specs.SoundPrograms.{LaidOutProgramsAreSound, ScheduledProgramsKeepRuns}

-- ---- dimensions

short_each : (dims : List ℕ) → AreShort dims → Each (λ len. len ≤ 65536) dims
short_each [] h = tt
short_each (len ∷ dims) h = (h.0, short_each dims h.1)

dims_short : (arrays : List ArrayTree) → ((a : ℕ) → AreShort (lengths_in (slice_get arrays a))) → Each (λ (dims : List ℕ). Each (λ len. len ≤ 65536) dims) (map (λ (a : ArrayTree). a.lengths) arrays)
dims_short [] h = tt
dims_short (a ∷ as_) h = (short_each a.lengths (h zero), dims_short as_ (λ i. h (suc i)))

-- ---- the whole

pub unfused_sound : (f : Frame) (choice : Choice) (kept : Point → Bool) (pieces : PieceTrees) (point : Point) (returned : Option VarId) (cfg : Cfg Untimed)
    → IsFine f kept pieces point → PiecesSubscriptsFit f.arrays pieces → IsUnfused f choice pieces point returned cfg → IsSoundProgram cfg
unfused_sound f choice kept pieces point returned cfg fine subscripts laid = record {
  dims = subst (λ (s : Shapes). Each (λ (dims : List ℕ). Each (λ len. len ≤ 65536) dims) s.dims) (sym laid.shapes) (dims_short f.arrays fine.short);
  nodes = subst (λ (s : Shapes). Each (IsSoundNode s) cfg.nodes.items) (sym laid.shapes) (trees.sound (scope_of f) choice.apart choice.loops pieces point returned cfg.nodes.items fine.typed subscripts laid.nodes);
}

pub sound : LaidOutProgramsAreSound
sound f choice kept pieces point returned cfg fine subscripts laid =
    fused_sound choice.period laid.unfused cfg laid.valid (unfused_sound f choice kept pieces point returned laid.unfused fine subscripts laid.laid) laid.fused

pub kept_runs : ScheduledProgramsKeepRuns
kept_runs f choice kept pieces point returned cfg fine subscripts laid units timed rows times s t holds fits =
    clocked f choice kept pieces point returned cfg fine laid units timed rows times (sound f choice kept pieces point returned cfg fine subscripts laid) s t holds fits
