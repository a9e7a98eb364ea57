-- Expressions of the types of what they name, which read no variable that is hidden.
use Rattle.std.specs.Prelude.{◌≡◌, ℕ, Bool, false, map, slice_get, Some}
use Rattle.c_value.specs.Values.{width, number_of}
use Rattle.c_value.specs.Operators.{unary_kind, binary_kind}
use Rattle.pieces.specs.Trees as tree
use Rattle.pieces.specs.Trees.{PureTree, PureTrees}
use Rattle.pieces.specs.Kind.{kind}
use Rattle.c_meaning.specs.PieceRuns.Pieces.{Frame, kind_at}
use Rattle.ir_core.specs.Bodies.{Shapes}
use Rattle.passes.specs.Lowering.Blocks.{Scope}
use Rattle.pass_runs.specs.LowerRuns.OperatorWords.Words.{IsType, IsWord}

-- the widths of a program's variables, and the lengths of its arrays
abbrev pub shapes_of : Frame → Shapes
shapes_of f = record { widths = map width f.variables; dims = map (λ a. a.lengths) f.arrays }

abbrev pub scope_of : Frame → Scope
scope_of f = record { variables = f.variables; arrays = f.arrays }

abbrev mutual
  pub Suits : Frame → (ℕ → Bool) → PureTree → Type 0
  Suits f hidden (tree.number word k) = IsType k × IsWord k (number_of k word) word
  Suits f hidden (tree.variable name k) = IsType k × (slice_get f.variables name.0 ≡ Some k) × (hidden name.0 ≡ false)
  Suits f hidden (tree.element array subscripts k at) = IsType k × (kind_at f.arrays array.0 ≡ k) × EachSuits f hidden subscripts
  Suits f hidden (tree.unary op arg k at) = IsType k × (unary_kind op (kind arg) ≡ k) × Suits f hidden arg
  Suits f hidden (tree.binary op left right k at) = IsType k × (binary_kind op (kind left) (kind right) ≡ k) × Suits f hidden left × Suits f hidden right
  Suits f hidden (tree.choice test left right k) = IsType k × Suits f hidden test × Suits f hidden left × Suits f hidden right
  Suits f hidden (tree.cast to arg) = IsType to × Suits f hidden arg

  pub EachSuits : Frame → (ℕ → Bool) → PureTrees → Type 0
  EachSuits f hidden tree.none = Unit {0}
  EachSuits f hidden (tree.more first rest) = Suits f hidden first × EachSuits f hidden rest
