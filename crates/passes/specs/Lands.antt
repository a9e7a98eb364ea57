-- In how many places pieces may be gone on with behind a call that was left.
use Rattle.std.specs.Prelude.{ℕ, ◌+◌}
use Rattle.pieces.specs.Trees as tree
use Rattle.pieces.specs.Trees.{PieceTree, PieceTrees}

abbrev mutual
  pub piece_lands : PieceTree → ℕ
  piece_lands (tree.set name value) = 0
  piece_lands (tree.put array subscripts value at) = 0
  piece_lands (tree.fork test left right end) = land_count left + land_count right
  piece_lands (tree.repeat_ id post before test body step end) = land_count before + land_count body + land_count step
  piece_lands (tree.pick test labels body end) = land_count body
  piece_lands tree.break_ = 0
  piece_lands tree.next_ = 0
  piece_lands (tree.leave call) = 0
  piece_lands (tree.land call end) = 1
  piece_lands (tree.mark point) = 0

  pub land_count : PieceTrees → ℕ
  land_count tree.no_pieces = 0
  land_count (tree.then_ first rest) = piece_lands first + land_count rest
