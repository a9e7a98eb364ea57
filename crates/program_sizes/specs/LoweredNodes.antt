-- How many nodes the trees of blocks of lowered pieces become.
use Rattle.std.specs.Prelude.{◌+◌, ◌*◌, ◌≤◌}
use Rattle.hls_base.specs.declared.point.Point.{Point}
use Rattle.pieces.specs.Trees.{PieceTrees}
use Rattle.pieces.specs.Weight.{piece_weights}
use Rattle.passes.specs.Lowering.Blocks.{Scope, begun}
use Rattle.passes.specs.Lowering.{last, lowered}
use Rattle.ir_layout.specs.Sizes.{sequence_size}
use Rattle.passes.specs.Lands.{land_count}

-- What pieces are lowered to becomes at most 4 nodes for each unit of their weight, one for each place where they may be gone on with behind a call that was left, and one more, whatever point they begin at.
abbrev pub LoweredNodesAreFew : Type 0
LoweredNodesAreFew = (scope : Scope) (pieces : PieceTrees) (point : Point) → sequence_size (lowered scope pieces last (begun point)) ≤ 4 * piece_weights pieces + land_count pieces + 1
