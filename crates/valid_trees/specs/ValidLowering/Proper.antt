-- Pieces that name elements by all their subscripts, change no table, and compute in the types of C's operators.
use Rattle.std.specs.Prelude.{◌≡◌, ℕ, suc, ◌<◌, Bool, false, List, [], ◌∷◌, length, slice_get, Option, Some, None, is_some}
use Rattle.c_token.specs.declared.ctype.CType.{CType}
use Rattle.c_tree.specs.declared.operator.Binary.{Binary}
use Rattle.c_tree.specs.declared.operator.Binary.TheVariants as b
use Rattle.c_value.specs.Values.{width, promoted}
use Rattle.pieces.specs.declared.piece.Label.{Label}
use Rattle.pieces.specs.Trees as tree
use Rattle.pieces.specs.Trees.{PureTree, PureTrees, PieceTree, PieceTrees}
use Rattle.pieces.specs.Program.{ArrayTree}
use Rattle.pieces.specs.Kind.{kind}
use Rattle.ir_core.specs.Value.{count_of}

-- ---- arrays

abbrev pub dimensions : Option ArrayTree → ℕ
dimensions None = 0
dimensions (Some a) = length a.lengths

-- the array is a table of constants
abbrev pub is_table : Option ArrayTree → Bool
is_table None = false
is_table (Some a) = is_some a.table

abbrev pub count : PureTrees → ℕ
count tree.none = 0
count (tree.more first rest) = suc (count rest)

-- ---- operators and labels

-- Products, quotients, remainders and shifts have a promoted type.
abbrev pub IsOfOperator : Binary → CType → Type 0
IsOfOperator b.Mul k = promoted k ≡ k
IsOfOperator b.Div k = promoted k ≡ k
IsOfOperator b.Rem k = promoted k ≡ k
IsOfOperator b.Shl k = promoted k ≡ k
IsOfOperator b.Shr k = promoted k ≡ k
IsOfOperator op k = Unit {0}

abbrev pub WordFits : CType → Option ℕ → Type 0
WordFits k None = Unit {0}
WordFits k (Some word) = word < count_of (width k)

-- Labels are words of this type.
abbrev pub LabelsFit : CType → List Label → Type 0
LabelsFit k [] = Unit {0}
LabelsFit k (l ∷ labels) = WordFits k l.value × LabelsFit k labels

-- ---- expressions and pieces

module _ (arrays : List ArrayTree) where
  -- An element has as many subscripts as its array has dimensions.
  abbrev mutual
    pub PureIsProper : PureTree → Type 0
    PureIsProper (tree.element array subscripts k at) = (count subscripts ≡ dimensions (slice_get arrays array.0)) × EachIsProper subscripts
    PureIsProper (tree.unary op arg k at) = PureIsProper arg
    PureIsProper (tree.binary op left right k at) = IsOfOperator op k × PureIsProper left × PureIsProper right
    PureIsProper (tree.choice test left right k) = PureIsProper test × PureIsProper left × PureIsProper right
    PureIsProper (tree.cast to arg) = PureIsProper arg
    PureIsProper x = Unit {0}

    pub EachIsProper : PureTrees → Type 0
    EachIsProper tree.none = Unit {0}
    EachIsProper (tree.more first rest) = PureIsProper first × EachIsProper rest

  -- no table is changed, and a value is compared with labels of its promoted type
  abbrev mutual
    pub PieceIsProper : PieceTree → Type 0
    PieceIsProper (tree.set name value) = PureIsProper value
    PieceIsProper (tree.put array subscripts value at) =
        (is_table (slice_get arrays array.0) ≡ false) × (count subscripts ≡ dimensions (slice_get arrays array.0)) × EachIsProper subscripts × PureIsProper value
    PieceIsProper (tree.fork test left right end) = PureIsProper test × PiecesAreProper left × PiecesAreProper right
    PieceIsProper (tree.repeat_ id post before test body step end) = PiecesAreProper before × PureIsProper test × PiecesAreProper body × PiecesAreProper step
    PieceIsProper (tree.pick test labels body end) = LabelsFit (promoted (kind test)) labels × PureIsProper test × PiecesAreProper body
    PieceIsProper piece = Unit {0}

    pub PiecesAreProper : PieceTrees → Type 0
    PiecesAreProper tree.no_pieces = Unit {0}
    PiecesAreProper (tree.then_ piece rest) = PieceIsProper piece × PiecesAreProper rest
