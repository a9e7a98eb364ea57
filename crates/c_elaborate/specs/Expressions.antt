-- Expressions with their names resolved and their types: C11 6.5.
use Rattle.std.specs.Prelude.{ℕ, Bool, true, false, List, [], ◌∷◌, map, Option, Some, None, unwrap_or, if◌then◌else◌}
use Rattle.c_token.specs.declared.ctype.CType.{CType}
use Rattle.c_tree.specs.declared.operator.Unary.{Unary}
use Rattle.c_tree.specs.declared.operator.Binary.{Binary}
use Rattle.hls_base.specs.declared.place.Place.{Place}
use Rattle.c_tree.specs.Tree as tree
use Rattle.c_tree.specs.Tree.{Tree, TargetTree, Trees, ActionTree}
use Rattle.c_value.specs.Values.{int_type, common}
use Rattle.c_value.specs.Operators.{unary_kind, binary_kind}
use Rattle.pieces.specs.declared.resolved.expression.Cell.{Cell}
use Rattle.c_elaborate.specs.declared.names.Known.{Known}
use Rattle.c_elaborate.specs.declared.names.Binding.{Binding}
use Rattle.c_elaborate.specs.declared.functions.Signature.{Signature}
use Rattle.pieces.specs.Resolved.Core as core
use Rattle.pieces.specs.Resolved.Core.{CoreTree, CoreTargetTree, CoreTrees, ArgumentTree, ArgumentTrees, CoreActionTree}
use Rattle.c_elaborate.specs.Names.{object_named, function_number, result_of}

-- ---- types

abbrev pub target_kind : CoreTargetTree → CType
target_kind (core.target cell subscripts kind at) = kind

-- the type of an expression; int of a void call
abbrev pub kind_of : CoreTree → CType
kind_of (core.number value kind) = kind
kind_of (core.scalar cell kind at) = kind
kind_of (core.element array subscripts kind at) = kind
kind_of (core.call callee args kind at) = unwrap_or kind int_type
kind_of (core.unary op arg kind at) = kind
kind_of (core.binary op left right kind at) = kind
kind_of (core.choice test left right kind at colon) = kind
kind_of (core.cast to arg) = to
kind_of (core.assign place op value at) = target_kind place
kind_of (core.bump place up post at) = target_kind place
kind_of (core.comma left right) = kind_of right

-- ---- operators with their types

abbrev pub unary_of : Unary → CoreTree → Place → CoreTree
unary_of op arg at = core.unary op arg (unary_kind op (kind_of arg)) at

abbrev pub binary_of : Binary → CoreTree → CoreTree → Place → CoreTree
binary_of op left right at = core.binary op left right (binary_kind op (kind_of left) (kind_of right)) at

abbrev pub choice_of : CoreTree → CoreTree → CoreTree → Place → Place → CoreTree
choice_of test left right at colon = core.choice test left right (common (kind_of left) (kind_of right)) at colon

-- ---- objects

abbrev pub scalar_of : Known → Place → CoreTree
scalar_of object at = core.scalar object.cell object.kind at

abbrev pub element_of : Known → CoreTrees → Place → CoreTree
element_of object subscripts at = core.element object.cell subscripts object.kind at

abbrev pub target_of : Known → CoreTrees → Place → CoreTargetTree
target_of object subscripts at = core.target object.cell subscripts object.kind at

-- ---- arguments

-- the array that an argument names, if it does
abbrev pub cell_if_array : Known → Option Cell
cell_if_array object = if object.is_array then Some object.cell else None

abbrev pub array_given : List Binding → Tree → Option Cell
array_given names (tree.name text at) = cell_if_array (object_named names text)
array_given names _ = None

abbrev pub argument_of : Option Cell → CoreTree → ArgumentTree
argument_of (Some cell) value = core.array cell
argument_of None value = core.given value

-- ---- expressions

abbrev mutual
  pub elaborated : List Signature → List Binding → Tree → CoreTree
  elaborated fs names (tree.number value kind at) = core.number value kind
  elaborated fs names (tree.name text at) = scalar_of (object_named names text) at
  elaborated fs names (tree.index array subscripts at) = element_of (object_named names array) (all_elaborated fs names subscripts) at
  elaborated fs names (tree.call callee args at) = core.call (function_number fs callee) (arguments_elaborated fs names args) (result_of fs callee) at
  elaborated fs names (tree.unary op arg at) = unary_of op (elaborated fs names arg) at
  elaborated fs names (tree.binary op left right at) = binary_of op (elaborated fs names left) (elaborated fs names right) at
  elaborated fs names (tree.choice test left right at colon) = choice_of (elaborated fs names test) (elaborated fs names left) (elaborated fs names right) at colon
  elaborated fs names (tree.cast to arg at) = core.cast to (elaborated fs names arg)
  elaborated fs names (tree.assign place op value at) = core.assign (target_elaborated fs names place) op (elaborated fs names value) at
  elaborated fs names (tree.bump place up post at) = core.bump (target_elaborated fs names place) up post at
  elaborated fs names (tree.comma left right at) = core.comma (elaborated fs names left) (elaborated fs names right)

  pub target_elaborated : List Signature → List Binding → TargetTree → CoreTargetTree
  target_elaborated fs names (tree.target text subscripts at) = target_of (object_named names text) (all_elaborated fs names subscripts) at

  pub all_elaborated : List Signature → List Binding → Trees → CoreTrees
  all_elaborated fs names tree.none = core.none
  all_elaborated fs names (tree.more first rest) = core.more (elaborated fs names first) (all_elaborated fs names rest)

  pub arguments_elaborated : List Signature → List Binding → Trees → ArgumentTrees
  arguments_elaborated fs names tree.none = core.no_argument
  arguments_elaborated fs names (tree.more first rest) = core.more_arguments (argument_of (array_given names first) (elaborated fs names first)) (arguments_elaborated fs names rest)

abbrev pub argument_elaborated : List Signature → List Binding → Tree → ArgumentTree
argument_elaborated fs names t = argument_of (array_given names t) (elaborated fs names t)

-- an expression whose value is not used
abbrev pub action_elaborated : List Signature → List Binding → ActionTree → CoreActionTree
action_elaborated fs names (tree.assignment place op v at) = core.change (elaborated fs names (tree.assign place op v at))
action_elaborated fs names (tree.bumping place up at) = core.change (elaborated fs names (tree.bump place up false at))
action_elaborated fs names (tree.evaluation v) = core.value (elaborated fs names v)
