-- Lowered trees are valid, and operators have types as that asks.
pub mod Proper
pub mod Examples
use Rattle.std.specs.Prelude.{map, is_some}
use Rattle.hls_base.specs.declared.point.Point.{Point}
use Rattle.c_token.specs.declared.ctype.CType.{CType}
use Rattle.c_tree.specs.declared.operator.Binary.{Binary}
use Rattle.c_value.specs.Values.{width}
use Rattle.c_value.specs.Operators.{binary_kind}
use Rattle.pieces.specs.Trees.{PieceTrees}
use Rattle.pieces.specs.Program.{ArrayTree}
use Rattle.passes.specs.Lowering.Blocks.{Scope, begun}
use Rattle.passes.specs.Lowering.{last, lowered}
use Rattle.pass_runs.specs.ConvertRuns.LoweredConversions.Suiting.{widths_of, PiecesSuit}
use Rattle.valid_trees.specs.Shapes.{MemoryShape, FrameShape}
use Rattle.valid_trees.specs.Trees.{TreeIsValid}
use Rattle.valid_trees.specs.ValidLowering.Proper.{IsOfOperator, PiecesAreProper}

abbrev pub memory_in : ArrayTree → MemoryShape
memory_in a = record { bits = width a.kind; dims = a.lengths; table = is_some a.table }

-- the widths of the variables, and of each array the width of its words, its lengths and whether it is a table
abbrev pub frame_in : Scope → FrameShape
frame_in scope = record { widths = widths_of scope; memories = map memory_in scope.arrays }

abbrev pub LoweredIsValid : Type 0
LoweredIsValid = (scope : Scope) (pieces : PieceTrees) (point : Point) → PiecesSuit scope pieces → PiecesAreProper scope.arrays pieces → TreeIsValid (frame_in scope) (lowered scope pieces last (begun point))

-- The type that C gives an operator is one that it may have.
abbrev pub OperatorsAreProper : Type 0
OperatorsAreProper = (op : Binary) (left right : CType) → IsOfOperator op (binary_kind op left right)
