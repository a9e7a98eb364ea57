-- What conversion makes of the forks and loops of lowered trees.
pub mod Converting
pub mod Straight
pub mod Examples
use Rattle.hls_base.specs.declared.point.Point.{Point}
use Rattle.pieces.specs.Trees.{PieceTrees}
use Rattle.ir_core.specs.Trees.{SequenceTree}
use Rattle.passes.specs.Lowering.Blocks.{Scope, begun}
use Rattle.passes.specs.Lowering.{last, lowered}
use Rattle.passes.specs.Numbering as n
use Rattle.passes.specs.Numbering.{numbered_sequence}
use Rattle.passes.specs.Conversion as c
use Rattle.passes.specs.Conversion.{converted_sequence}
use Rattle.lowered_shapes.specs.ConvertedShapes.Converting.{AllConvert, HasNoFork}
use Rattle.lowered_shapes.specs.ConvertedShapes.Straight.{NoStraightCallEnds}

-- In the numbered tree of pieces each convertible fork is merged, and each eligible loop becomes a loop node, where no call ends in them.
abbrev pub LoweredShapesConvert : Type 0
LoweredShapesConvert = (scope : Scope) (numbering : n.Scope) (conversion : c.Scope) (pieces : PieceTrees) (point : Point) → NoStraightCallEnds pieces
    → AllConvert conversion (numbered_sequence numbering (lowered scope pieces last (begun point)))

-- Where each convertible fork is merged, no convertible fork is left.
abbrev pub NoForkIsLeft : Type 0
NoForkIsLeft = (scope : c.Scope) (blocks : SequenceTree) → AllConvert scope blocks → HasNoFork (converted_sequence scope blocks)
