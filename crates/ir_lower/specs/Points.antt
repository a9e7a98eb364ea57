-- Points behind references, and forks and loops of a form.
use Rattle.std.specs.Prelude.{Bool, false, Option}
use Rattle.std.specs.Option.{option_map}
use Rattle.std.specs.Borrow.{Bor}
use Rattle.hls_base.specs.declared.point.Point.{Point}
use Rattle.pieces.specs.Trees as tree
use Rattle.pieces.specs.Trees.{PieceTree}
use Rattle.pieces.specs.Weight.{weight}
use Rattle.passes.specs.Lowering.Shapes.{is_straight, is_eligible}

abbrev pub pointed : Option (Bor Point) → Option Point
pointed = option_map (λ point. point.now)

abbrev pub is_fork_that_converts : PieceTree → Bool
is_fork_that_converts (tree.fork test left right end) = is_straight (tree.fork test left right end)
is_fork_that_converts piece = false

abbrev pub is_loop_that_overlaps : PieceTree → Bool
is_loop_that_overlaps (tree.repeat_ id post before test body step end) = is_eligible post before (weight test) body step
is_loop_that_overlaps piece = false
