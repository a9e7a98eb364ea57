-- All points of pieces: those of the marks, and those at the ends of forks, loops, switches and calls.
use Rattle.std.specs.Prelude.{List, [], ◌∷◌, ◌++◌}
use Rattle.hls_base.specs.declared.point.Point.{Point}
use Rattle.pieces.specs.Trees as tree
use Rattle.pieces.specs.Trees.{PieceTree, PieceTrees}

abbrev mutual
  pub all_points : PieceTrees → List Point
  all_points tree.no_pieces = []
  all_points (tree.then_ first rest) = own_points first ++ all_points rest

  pub own_points : PieceTree → List Point
  own_points (tree.fork test left right end) = all_points left ++ (all_points right ++ end ∷ [])
  own_points (tree.repeat_ id post before test body step end) = all_points before ++ (all_points body ++ (all_points step ++ end ∷ []))
  own_points (tree.pick test labels body end) = all_points body ++ end ∷ []
  own_points (tree.land call end) = end ∷ []
  own_points (tree.mark point) = point ∷ []
  own_points piece = []
