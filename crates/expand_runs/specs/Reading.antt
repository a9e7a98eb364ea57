-- What expressions without calls and changes read, and of which types they are.
use Rattle.std.specs.Prelude.{◌≡◌, ℕ, ℤ, slice_get}
use Rattle.c_token.specs.declared.ctype.CType.{CType}
use Rattle.c_value.specs.Values.{convert, number_of}
use Rattle.c_value.specs.Operators.{unary_kind, binary_kind, unary_value, binary_value, defined}
use Rattle.c_tree.specs.declared.operator.Unary.{Unary}
use Rattle.c_tree.specs.declared.operator.Binary.{Binary}
use Rattle.pieces.specs.Trees as tree
use Rattle.pieces.specs.Trees.{PureTree, PureTrees}
use Rattle.pieces.specs.Kind.{kind}
use Rattle.c_meaning.specs.PieceRuns.Values.{Store}
use Rattle.c_meaning.specs.PieceRuns.Pieces.{Frame, type_of, kind_at}

abbrev mutual
  -- each variable that is read has a property
  pub AllRead : (ℕ → Type 0) → PureTree → Type 0
  AllRead P (tree.number value k) = Unit {0}
  AllRead P (tree.variable name k) = P name.0
  AllRead P (tree.element array subscripts k at) = EachReads P subscripts
  AllRead P (tree.unary op arg k at) = AllRead P arg
  AllRead P (tree.binary op left right k at) = AllRead P left × AllRead P right
  AllRead P (tree.choice test left right k) = AllRead P test × AllRead P left × AllRead P right
  AllRead P (tree.cast to arg) = AllRead P arg

  pub EachReads : (ℕ → Type 0) → PureTrees → Type 0
  EachReads P tree.none = Unit {0}
  EachReads P (tree.more first rest) = AllRead P first × EachReads P rest

-- ---- types

-- a number of the type
abbrev pub IsNumber : CType → ℤ → Type 0
IsNumber k v = convert k v ≡ v

abbrev pub variable_type : Frame → ℕ → CType
variable_type f i = type_of (slice_get f.variables i)

-- each variable and each element holds a number of its type
pub record IsTyped (f : Frame) (t : Store) : Type 0 where
  pub variables : (i : ℕ) → IsNumber (variable_type f i) (t.variables i)
  pub elements : (a i : ℕ) → IsNumber (kind_at f.arrays a) (t.elements a i)

abbrev mutual
  -- each node has the type of its variable, its array or its operands
  pub HasTypes : Frame → PureTree → Type 0
  HasTypes f (tree.number value k) = IsNumber k (number_of k value)
  HasTypes f (tree.variable name k) = variable_type f name.0 ≡ k
  HasTypes f (tree.element array subscripts k at) = (kind_at f.arrays array.0 ≡ k) × EachHasTypes f subscripts
  HasTypes f (tree.unary op arg k at) = (unary_kind op (kind arg) ≡ k) × HasTypes f arg
  HasTypes f (tree.binary op left right k at) = (binary_kind op (kind left) (kind right) ≡ k) × HasTypes f left × HasTypes f right
  HasTypes f (tree.choice test left right k) = HasTypes f test × HasTypes f left × HasTypes f right
  HasTypes f (tree.cast to arg) = HasTypes f arg

  pub EachHasTypes : Frame → PureTrees → Type 0
  EachHasTypes f tree.none = Unit {0}
  EachHasTypes f (tree.more first rest) = HasTypes f first × EachHasTypes f rest

-- ---- results

-- what an operator gives is a number of its type
abbrev pub UnaryFits : Type 0
UnaryFits = (op : Unary) (k : CType) (x v : ℤ) → unary_value op k x ≡ defined v → IsNumber (unary_kind op k) v

abbrev pub BinaryFits : Type 0
BinaryFits = (op : Binary) (left right : CType) (x y v : ℤ) → binary_value op left x right y ≡ defined v → IsNumber (binary_kind op left right) v
