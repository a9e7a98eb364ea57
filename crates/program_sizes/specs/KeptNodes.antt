-- What numbering and conversion keep of nodes, and how many folds lowered pieces have.
pub mod Seen
pub mod Points
pub mod Folds
use Rattle.std.specs.Prelude.{◌≡◌, ◌≤◌, Contains, map, Option}
use Rattle.hls_base.specs.declared.number.VarId.{VarId}
use Rattle.hls_base.specs.declared.point.Point.{Point}
use Rattle.pieces.specs.Trees.{PieceTrees}
use Rattle.pieces.specs.Weight.{piece_weights}
use Rattle.ir_core.specs.Trees.{SequenceTree}
use Rattle.passes.specs.Numbering as numbering
use Rattle.passes.specs.Numbering.{numbered_sequence}
use Rattle.passes.specs.Conversion as conversion
use Rattle.passes.specs.Conversion.{converted_sequence}
use Rattle.passes.specs.Lowering.Blocks.{Scope, begun}
use Rattle.passes.specs.Lowering.{last, lowered}
use Rattle.ir_layout.specs.Layout.{laid_out}
use Rattle.program_sizes.specs.KeptNodes.Seen.{seen}
use Rattle.program_sizes.specs.KeptNodes.Points.{block_points, IsSublist}
use Rattle.program_sizes.specs.KeptNodes.Folds.{sequence_folds}

-- A numbered tree becomes nodes that begin at the same points as before, are loops where they were, and lead to the same places.
abbrev pub NumberedNodesStay : Type 0
NumberedNodesStay = (scope : numbering.Scope) (blocks : SequenceTree) (returned : Option VarId) → map seen (laid_out (numbered_sequence scope blocks) returned) ≡ map seen (laid_out blocks returned)

-- The nodes of a tree begin at the points of its blocks, in their order.
abbrev pub NodesBeginAtBlocks : Type 0
NodesBeginAtBlocks = (blocks : SequenceTree) (returned : Option VarId) → map (λ x. (seen x).point) (laid_out blocks returned) ≡ block_points blocks

-- A converted tree has some of the points of the tree, in their order.
abbrev pub ConvertedPointsStay : Type 0
ConvertedPointsStay = (scope : conversion.Scope) (blocks : SequenceTree) → IsSublist (block_points (converted_sequence scope blocks)) (block_points blocks)

-- So each of its points is one of the tree.
abbrev pub ConvertedPointsAreThere : Type 0
ConvertedPointsAreThere = (scope : conversion.Scope) (blocks : SequenceTree) (point : Point) → Contains (block_points (converted_sequence scope blocks)) point → Contains (block_points blocks) point

-- Forks that may be converted and loops that may be overlapped are together at most as many as the pieces weigh, whatever point they begin at.
abbrev pub LoweredFoldsAreFew : Type 0
LoweredFoldsAreFew = (scope : Scope) (pieces : PieceTrees) (point : Point) → sequence_folds (lowered scope pieces last (begun point)) ≤ piece_weights pieces
