-- How many operations the blocks of pieces have, with those that are added where their forks are converted.
use Rattle.std.specs.Prelude.{◌+◌, ◌^◌, ◌≤◌, ◌<◌, false}
use Rattle.hls_base.specs.declared.point.Point.{Point}
use Rattle.pieces.specs.Trees.{PieceTrees}
use Rattle.pieces.specs.Weight.{piece_weights}
use Rattle.ir_core.specs.Trees.{SequenceTree}
use Rattle.passes.specs.Lowering.Blocks.{Scope, begun}
use Rattle.passes.specs.Lowering.{last, lowered}
use Rattle.passes.specs.Totals.{operations, settings, sequence_total}
use Rattle.passes.specs.OperationCount.Pieces.{operations_of, sets_of, additions_of}
use Rattle.passes.specs.OperationCount.Forks.{sequence_additions}

-- The blocks of these pieces have no more operations, set no more variables, and get no more operations by conversion, than the pieces count.
pub record IsCounted (scope : Scope) (pieces : PieceTrees) (s : SequenceTree) : Type 0 where
  pub operations : sequence_total operations s ≤ operations_of scope false pieces
  pub settings : sequence_total settings s ≤ sets_of pieces
  pub additions : sequence_additions s ≤ additions_of scope pieces

-- The blocks of pieces are counted, whatever point they begin at.
abbrev pub LoweredOperationsAreCounted : Type 0
LoweredOperationsAreCounted = (scope : Scope) (pieces : PieceTrees) (point : Point) → IsCounted scope pieces (lowered scope pieces last (begun point))

-- Pieces that weigh at most 8,192 count fewer operations than 2 to the power of 25.
abbrev pub CountedOperationsAreFew : Type 0
CountedOperationsAreFew = (scope : Scope) (pieces : PieceTrees) → piece_weights pieces ≤ 8192 → operations_of scope false pieces + additions_of scope pieces < 2 ^ 25
