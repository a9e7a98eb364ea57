-- What is known of lowered trees.
pub mod Fitting
use Rattle.std.specs.Prelude.{false, []}
use Rattle.hls_base.specs.declared.point.Point.{Point}
use Rattle.pieces.specs.Trees.{PieceTrees}
use Rattle.passes.specs.Lowering.Blocks.{Scope, begun}
use Rattle.passes.specs.Lowering.{last, lowered}
use Rattle.passes.specs.NumberRuns.Ordered.{IsOrdered}
use Rattle.ir_layout.specs.WellFormed.{IsWellFormed}
use Rattle.pass_runs.specs.LowerRuns.LoweredTrees.Fitting.{PiecesFit}

-- Operands come before their uses, and each operation that C may give no value notes its place: what numbering takes for granted.
abbrev pub LoweredIsOrdered : Type 0
LoweredIsOrdered = (scope : Scope) (pieces : PieceTrees) (point : Point) → IsOrdered (lowered scope pieces last (begun point))

-- Each block is left as what stands behind it asks, where the jumps of the pieces lead somewhere: what laying out takes for granted.
abbrev pub LoweredIsWellFormed : Type 0
LoweredIsWellFormed = (scope : Scope) (pieces : PieceTrees) (point : Point) → PiecesFit (record { leave = false; again = false; lands = [] }) pieces → IsWellFormed (lowered scope pieces last (begun point))
