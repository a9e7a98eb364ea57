-- How many operations pieces become at most, and how many variables they set.
use Rattle.std.specs.Prelude.{ℕ, ◌+◌, Bool, false, ◌||◌, List, [], ◌∷◌, is_some, if◌then◌else◌}
use Rattle.c_value.specs.Values.{promoted}
use Rattle.pieces.specs.declared.piece.Label.{Label}
use Rattle.pieces.specs.Trees as tree
use Rattle.pieces.specs.Trees.{PieceTree, PieceTrees}
use Rattle.pieces.specs.Kind.{kind}
use Rattle.pieces.specs.Weight.{weight}
use Rattle.passes.specs.Lowering.Shapes.{is_straight, is_eligible}
use Rattle.passes.specs.Lowering.Blocks.{Scope, variable_type, element_type}
use Rattle.passes.specs.OperationCount.Expressions.{one_if, as_condition, as_assigned, as_operand, count, subscript_count}

-- labels with a value, each of which is compared
abbrev pub compared : List Label → ℕ
compared [] = 0
compared (l ∷ ls) = one_if (is_some l.value) + compared ls

abbrev mutual
  -- Within a loop whose iterations may overlap each variable that is set may need a copy.
  pub piece_operations : Scope → Bool → PieceTree → ℕ
  piece_operations scope overlaps (tree.set name value) = count value + as_assigned value (variable_type scope name) + one_if overlaps
  piece_operations scope overlaps (tree.put array subscripts value at) = 1 + subscript_count subscripts + count value + as_assigned value (element_type scope array)
  piece_operations scope overlaps (tree.fork test left right end) = count test + as_condition test + operations_of scope overlaps left + operations_of scope overlaps right
  piece_operations scope overlaps (tree.repeat_ id post before test body step end) =
      operations_of scope overlaps before + count test + as_condition test
      + operations_of scope (overlaps || is_eligible post before (weight test) body step) body
      + operations_of scope (overlaps || is_eligible post before (weight test) body step) step
  piece_operations scope overlaps (tree.pick test labels body end) = count test + as_operand test (promoted (kind test)) + compared labels + operations_of scope overlaps body
  piece_operations scope overlaps tree.break_ = 0
  piece_operations scope overlaps tree.next_ = 0
  piece_operations scope overlaps (tree.leave call) = 0
  piece_operations scope overlaps (tree.land call end) = 0
  piece_operations scope overlaps (tree.mark point) = 0

  pub operations_of : Scope → Bool → PieceTrees → ℕ
  operations_of scope overlaps tree.no_pieces = 0
  operations_of scope overlaps (tree.then_ first rest) = piece_operations scope overlaps first + operations_of scope overlaps rest

abbrev mutual
  pub piece_sets : PieceTree → ℕ
  piece_sets (tree.set name value) = 1
  piece_sets (tree.fork test left right end) = sets_of left + sets_of right
  piece_sets (tree.repeat_ id post before test body step end) = sets_of before + sets_of body + sets_of step
  piece_sets (tree.pick test labels body end) = sets_of body
  piece_sets piece = 0

  pub sets_of : PieceTrees → ℕ
  sets_of tree.no_pieces = 0
  sets_of (tree.then_ first rest) = piece_sets first + sets_of rest

-- what is added where a fork of these pieces is converted, if it may be: no more than its operations, the variables that it sets, and 4
abbrev pub fork_adds : Scope → PieceTree → ℕ
fork_adds scope piece = if is_straight piece then piece_operations scope false piece + piece_sets piece + 4 else 0

abbrev mutual
  -- the same of all forks of pieces
  pub piece_additions : Scope → PieceTree → ℕ
  piece_additions scope (tree.fork test left right end) = fork_adds scope (tree.fork test left right end) + additions_of scope left + additions_of scope right
  piece_additions scope (tree.repeat_ id post before test body step end) = additions_of scope before + additions_of scope body + additions_of scope step
  piece_additions scope (tree.pick test labels body end) = additions_of scope body
  piece_additions scope piece = 0

  pub additions_of : Scope → PieceTrees → ℕ
  additions_of scope tree.no_pieces = 0
  additions_of scope (tree.then_ first rest) = piece_additions scope first + additions_of scope rest
