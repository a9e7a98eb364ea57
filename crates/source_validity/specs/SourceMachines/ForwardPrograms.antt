-- Valid programs of few operations can be given times.
pub mod NearConstants
pub mod Examples
use Rattle.std.specs.Prelude.{◌≡◌, true, Bool, map, Option}
use Rattle.std.specs.List.{All}
use Rattle.hls_base.specs.declared.number.VarId.{VarId}
use Rattle.hls_base.specs.declared.point.Point.{Point}
use Rattle.pieces.specs.Trees.{PieceTrees}
use Rattle.ir_core.specs.declared.cfg.Cfg.{Cfg}
use Rattle.ir_core.specs.declared.stamp.Untimed.{Untimed}
use Rattle.passes.specs.Lowering.Blocks.{Scope}
use Rattle.pass_runs.specs.ConvertRuns.LoweredConversions.Suiting.{PiecesSuit}
use Rattle.ir_layout.specs.Nodes.{node_of}
use Rattle.ir_layout.specs.Layout.{laid_out}
use Rattle.program_validity.specs.Programs.{is_valid}
use Rattle.report_rows.specs.ForwardNodes.{HasForwardBody}
use Rattle.sound_trees.specs.Subscripts.{PiecesSubscriptsFit}
use Rattle.sound_trees.specs.Laws.{tree_in}
use Rattle.program_sizes.specs.CompiledSizes.{AreLight, IsSmallProgram}
use Rattle.source_validity.specs.SourceMachines.ForwardPrograms.NearConstants.{ConstantsAreNear}

-- In a valid program that is small the operations of each node come behind those that they wait for, where its constants are near.
abbrev pub ValidProgramsAreForward : Type 0
ValidProgramsAreForward = (cfg : Cfg Untimed) → is_valid cfg ≡ true → ConstantsAreNear cfg → IsSmallProgram cfg → All HasForwardBody cfg.nodes.items

-- The constants are near in the flat program that pieces are compiled to, which have the types of what they name and as many subscripts as dimensions.
abbrev pub LaidOutConstantsAreNear : Type 0
LaidOutConstantsAreNear = (scope : Scope) (apart loops : Bool) (pieces : PieceTrees) (point : Point) (returned : Option VarId) (cfg : Cfg Untimed) → PiecesSuit scope pieces → PiecesSubscriptsFit scope.arrays pieces
    → map node_of cfg.nodes.items ≡ laid_out (tree_in scope apart loops pieces point) returned → ConstantsAreNear cfg

-- So the flat program that light pieces are compiled to can be given times, where it is valid.
abbrev pub CompiledProgramsAreForward : Type 0
CompiledProgramsAreForward = (scope : Scope) (apart loops : Bool) (pieces : PieceTrees) (point : Point) (returned : Option VarId) (cfg : Cfg Untimed) → PiecesSuit scope pieces → PiecesSubscriptsFit scope.arrays pieces → AreLight pieces
    → map node_of cfg.nodes.items ≡ laid_out (tree_in scope apart loops pieces point) returned → is_valid cfg ≡ true → All HasForwardBody cfg.nodes.items
