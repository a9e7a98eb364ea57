-- Pieces whose expressions have the types of what they name, and straight pieces in which no call ends.
use Rattle.std.specs.Prelude.{◌≡◌, ℕ, ◌<◌, List, map, slice_get, Some}
use Rattle.c_value.specs.Values.{width}
use Rattle.pieces.specs.Trees as tree
use Rattle.pieces.specs.Trees.{PureTree, PureTrees, PieceTree, PieceTrees}
use Rattle.pieces.specs.Program.{ArrayTree}
use Rattle.ir_core.specs.Value.{count_of}
use Rattle.passes.specs.Lowering.Blocks.{Scope}

-- the widths of the variables, and of the words of the arrays
abbrev pub widths_of : Scope → List ℕ
widths_of scope = map width scope.variables

abbrev pub words_of : Scope → List ℕ
words_of scope = map (λ a. width a.kind) scope.arrays

module _ (scope : Scope) where
  -- A constant is a word of its type, a variable and an element have the types that are noted.
  abbrev mutual
    pub PureSuits : PureTree → Type 0
    PureSuits (tree.number word k) = word < count_of (width k)
    PureSuits (tree.variable name k) = slice_get scope.variables name.0 ≡ Some k
    PureSuits (tree.element array subscripts k at) = ((a : ArrayTree) × (slice_get scope.arrays array.0 ≡ Some a) × (a.kind ≡ k)) × EachSuits subscripts
    PureSuits (tree.unary op arg k at) = PureSuits arg
    PureSuits (tree.binary op left right k at) = PureSuits left × PureSuits right
    PureSuits (tree.choice test left right k) = PureSuits test × PureSuits left × PureSuits right
    PureSuits (tree.cast to arg) = PureSuits arg

    pub EachSuits : PureTrees → Type 0
    EachSuits tree.none = Unit {0}
    EachSuits (tree.more first rest) = PureSuits first × EachSuits rest

  abbrev mutual
    pub PieceSuits : PieceTree → Type 0
    PieceSuits (tree.set name value) = PureSuits value
    PieceSuits (tree.put array subscripts value at) = ((a : ArrayTree) × (slice_get scope.arrays array.0 ≡ Some a)) × EachSuits subscripts × PureSuits value
    PieceSuits (tree.fork test left right end) = PureSuits test × PiecesSuit left × PiecesSuit right
    PieceSuits (tree.repeat_ id post before test body step end) = PiecesSuit before × PureSuits test × PiecesSuit body × PiecesSuit step
    PieceSuits (tree.pick test labels body end) = PureSuits test × PiecesSuit body
    PieceSuits piece = Unit {0}

    pub PiecesSuit : PieceTrees → Type 0
    PiecesSuit tree.no_pieces = Unit {0}
    PiecesSuit (tree.then_ piece rest) = PieceSuits piece × PiecesSuit rest

-- No call ends among the pieces and in their branches.
abbrev mutual
  pub EndsNoCall : PieceTree → Type 0
  EndsNoCall (tree.land call end) = ⊥
  EndsNoCall (tree.fork test left right end) = NoCallEnds left × NoCallEnds right
  EndsNoCall piece = Unit {0}

  pub NoCallEnds : PieceTrees → Type 0
  NoCallEnds tree.no_pieces = Unit {0}
  NoCallEnds (tree.then_ piece rest) = EndsNoCall piece × NoCallEnds rest
