-- How far back outs and tests go in the programs that pieces and sources are compiled to.
use Rattle.std.specs.Prelude.{◌≡◌, ℕ, Bool, List, map, Option}
use Rattle.hls_base.specs.declared.number.VarId.{VarId}
use Rattle.hls_base.specs.declared.point.Point.{Point}
use Rattle.c_tree.specs.Tree.{ProgramTree}
use Rattle.pieces.specs.Trees.{PieceTrees}
use Rattle.c_meaning.specs.PieceRuns.Runs.{frame_of}
use Rattle.ir_core.specs.declared.cfg.Cfg.{Cfg}
use Rattle.ir_core.specs.declared.stamp.Untimed.{Untimed}
use Rattle.passes.specs.Lowering.Blocks.{Scope}
use Rattle.pass_runs.specs.ConvertRuns.LoweredConversions.Suiting.{PiecesSuit}
use Rattle.ir_layout.specs.Nodes.{node_of}
use Rattle.ir_layout.specs.Layout.{laid_out}
use Rattle.sound_trees.specs.Subscripts.{PiecesSubscriptsFit}
use Rattle.sound_trees.specs.Laws.{tree_in}
use Rattle.timed_pieces.specs.FlatRuns.{Choice, IsLaidOut}
use Rattle.source_answers.specs.SourceRuns.{IsFaultless, expanded}
use Rattle.source_validity.specs.SourceMachines.SmallTimes.NearOuts.{OutsAreNear}

-- The outs and tests are near in the flat program that pieces are compiled to, which have the types of what they name and as many subscripts as dimensions.
abbrev pub LaidOutOutsAreNear : Type 0
LaidOutOutsAreNear = (scope : Scope) (apart loops : Bool) (pieces : PieceTrees) (point : Point) (returned : Option VarId) (cfg : Cfg Untimed) → PiecesSuit scope pieces → PiecesSubscriptsFit scope.arrays pieces
    → map node_of cfg.nodes.items ≡ laid_out (tree_in scope apart loops pieces point) returned → OutsAreNear cfg

-- So they are in each program that is laid out from a source without faults, whatever point its pieces begin at.
abbrev pub SourcesHaveNearOuts : Type 0
SourcesHaveNearOuts = (source : List ℕ) (p : ProgramTree) (top : ℕ) (name : List ℕ) → IsFaultless source p top name
    → (start : Point) (choice : Choice) (cfg : Cfg Untimed) → IsLaidOut (frame_of (expanded p top)) choice (expanded p top).pieces start (expanded p top).result cfg → OutsAreNear cfg
