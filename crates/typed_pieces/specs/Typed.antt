-- Pieces whose expressions have the types of what they name, and whose labels are words of the promoted type of what is tested.
use Rattle.std.specs.Prelude.{◌≡◌, slice_get, Some}
use Rattle.hls_base.specs.declared.number.ArrayId.{ArrayId}
use Rattle.c_value.specs.Values.{promoted}
use Rattle.pieces.specs.Trees as tree
use Rattle.pieces.specs.Trees.{PureTree, PureTrees, PieceTree, PieceTrees}
use Rattle.pieces.specs.Kind.{kind}
use Rattle.pieces.specs.Program.{ArrayTree}
use Rattle.c_meaning.specs.PieceRuns.Pieces.{Frame}
use Rattle.pass_runs.specs.LowerRuns.Suits.{Suits, EachSuits, scope_of}
use Rattle.pass_runs.specs.ConvertRuns.LoweredConversions.Suiting as scoped
use Rattle.pass_runs.specs.ConvertRuns.LoweredConversions.Suiting.{PureSuits}
use Rattle.pass_runs.specs.LowerRuns.Holding.{none_hidden, IsThere}
use Rattle.valid_trees.specs.ValidLowering.Proper.{LabelsFit}

-- each node is of a type of C, which is that of the variable, of the array or of what the operator gives
abbrev pub IsTyped : Frame → PureTree → Type 0
IsTyped f x = Suits f none_hidden x × PureSuits (scope_of f) x

abbrev pub AreTyped : Frame → PureTrees → Type 0
AreTyped f xs = EachSuits f none_hidden xs × scoped.EachSuits (scope_of f) xs

-- there is such an array
abbrev pub IsArrayThere : Frame → ArrayId → Type 0
IsArrayThere f array = (a : ArrayTree) × (slice_get f.arrays array.0 ≡ Some a)

abbrev mutual
  pub PieceTyped : Frame → PieceTree → Type 0
  PieceTyped f (tree.set name value) = IsThere f name × IsTyped f value
  PieceTyped f (tree.put array subscripts value at) = IsArrayThere f array × AreTyped f subscripts × IsTyped f value
  PieceTyped f (tree.fork test left right end) = IsTyped f test × PiecesTyped f left × PiecesTyped f right
  PieceTyped f (tree.repeat_ id post before test body step end) = PiecesTyped f before × IsTyped f test × PiecesTyped f body × PiecesTyped f step
  PieceTyped f (tree.pick test labels body end) = IsTyped f test × PiecesTyped f body × LabelsFit (promoted (kind test)) labels
  PieceTyped f tree.break_ = Unit {0}
  PieceTyped f tree.next_ = Unit {0}
  PieceTyped f (tree.leave call) = Unit {0}
  PieceTyped f (tree.land call end) = Unit {0}
  PieceTyped f (tree.mark point) = Unit {0}

  pub PiecesTyped : Frame → PieceTrees → Type 0
  PiecesTyped f tree.no_pieces = Unit {0}
  PiecesTyped f (tree.then_ first rest) = PieceTyped f first × PiecesTyped f rest
