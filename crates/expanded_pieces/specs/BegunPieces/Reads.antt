-- Expressions that read no variable that is hidden.
use Rattle.std.specs.Prelude.{◌≡◌, ℕ, Bool, false}
use Rattle.pieces.specs.Trees as tree
use Rattle.pieces.specs.Trees.{PureTree, PureTrees}

abbrev mutual
  pub ReadsNone : (ℕ → Bool) → PureTree → Type 0
  ReadsNone hidden (tree.number value k) = Unit {0}
  ReadsNone hidden (tree.variable name k) = hidden name.0 ≡ false
  ReadsNone hidden (tree.element array subscripts k at) = EachReadsNone hidden subscripts
  ReadsNone hidden (tree.unary op arg k at) = ReadsNone hidden arg
  ReadsNone hidden (tree.binary op left right k at) = ReadsNone hidden left × ReadsNone hidden right
  ReadsNone hidden (tree.choice test left right k) = ReadsNone hidden test × ReadsNone hidden left × ReadsNone hidden right
  ReadsNone hidden (tree.cast to arg) = ReadsNone hidden arg

  pub EachReadsNone : (ℕ → Bool) → PureTrees → Type 0
  EachReadsNone hidden tree.none = Unit {0}
  EachReadsNone hidden (tree.more first rest) = ReadsNone hidden first × EachReadsNone hidden rest
