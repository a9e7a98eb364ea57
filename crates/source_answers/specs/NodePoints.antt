-- What is known of the points of nodes.
use Rattle.std.specs.Prelude.{Bool, Option}
use Rattle.hls_base.specs.declared.number.VarId.{VarId}
use Rattle.hls_base.specs.declared.point.Point.{Point}
use Rattle.ir_core.specs.declared.cfg.Cfg.{Cfg}
use Rattle.ir_core.specs.declared.stamp.Untimed.{Untimed}
use Rattle.pieces.specs.Trees.{PieceTrees}
use Rattle.c_meaning.specs.PieceRuns.Values.{Store}
use Rattle.c_meaning.specs.PieceRuns.Pieces.{Frame}
use Rattle.timed_pieces.specs.FlatRuns.{Choice, IsFine, IsLaidOut, has_node}
use Rattle.expanded_pieces.specs.ApartPoints.Apart.{AreApart}
use Rattle.expanded_pieces.specs.ApartPoints.Points.{all_points}
use Rattle.timed_pieces.specs.FormulaCycles.{PointsDiffer, PassesKept}

-- No point has two nodes in a program that is laid out from pieces among which no point stands twice.
abbrev pub LaidOutPointsDiffer : Type 0
LaidOutPointsDiffer = (f : Frame) (choice : Choice) (kept : Point → Bool) (pieces : PieceTrees) (point : Point) (returned : Option VarId) (cfg : Cfg Untimed)
    → IsFine f kept pieces point → IsLaidOut f choice pieces point returned cfg → AreApart (all_points pieces) → PointsDiffer cfg.nodes.items

-- Each node of such a program begins at a point that is kept, or that no run of the pieces passes: what stands before the first label of a switch has nodes, but never runs.
abbrev pub LaidOutPassesKept : Type 0
LaidOutPassesKept = (f : Frame) (choice : Choice) (kept : Point → Bool) (pieces : PieceTrees) (point : Point) (returned : Option VarId) (cfg : Cfg Untimed)
    → IsFine f kept pieces point → IsLaidOut f choice pieces point returned cfg → AreApart (all_points pieces) → (s : Store) → PassesKept f pieces s (has_node f choice kept pieces point) cfg.nodes.items
