-- What laid out programs name is there.
use Rattle.std.proofs.Common.{◌≡◌, ℕ, Bool, Option, Some}
use Rattle.std.specs.Prelude.{slice_get}
use Rattle.hls_base.specs.declared.number.VarId.{VarId}
use Rattle.hls_base.specs.declared.point.Point.{Point}
use Rattle.pieces.specs.Trees.{PieceTrees}
use Rattle.c_meaning.specs.PieceRuns.Pieces.{Frame}
use Rattle.ir_core.specs.declared.cfg.Cfg.{Cfg}
use Rattle.ir_core.specs.declared.cfg.Node.{Node}
use Rattle.ir_core.specs.declared.stamp.Untimed.{Untimed}
use Rattle.ir_core.specs.FlatRuns.{shapes_of}
use Rattle.flat_programs.specs.Machine.Rest.{IsWhole}
use Rattle.program_validity.proofs.Whole.{whole}
use Rattle.op_chain.proofs.ValidFusing.Whole.{keeps_validity}
use Rattle.timed_pieces.specs.FlatRuns.{Choice, IsLaidOut}
use Rattle.source_validity.proofs.SourceMachines.WholePrograms.Bodies.{NodeThere}

pub laid_whole : (f : Frame) (choice : Choice) (pieces : PieceTrees) (point : Point) (returned : Option VarId) (cfg : Cfg Untimed) → IsLaidOut f choice pieces point returned cfg → IsWhole cfg
laid_whole f choice pieces point returned cfg laid = whole cfg (keeps_validity choice.period laid.unfused cfg laid.valid laid.fused)

pub laid_there : (f : Frame) (choice : Choice) (pieces : PieceTrees) (point : Point) (returned : Option VarId) (cfg : Cfg Untimed) → IsLaidOut f choice pieces point returned cfg
    → (i : ℕ) (n : Node Untimed) → slice_get cfg.nodes.items i ≡ Some n → NodeThere (shapes_of cfg.frame) n
laid_there f choice pieces point returned cfg laid i n is = let all = laid_whole f choice pieces point returned cfg laid in (all.outs i n is, all.arrays i n is)
