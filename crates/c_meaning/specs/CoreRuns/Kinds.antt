-- The types of core expressions, and which of them pass points.
use Rattle.std.specs.Prelude.{◌||◌, Bool, true, false, unwrap_or}
use Rattle.c_token.specs.declared.ctype.CType.{CType}
use Rattle.c_value.specs.Values.{int_type}
use Rattle.pieces.specs.Resolved.Core as core
use Rattle.pieces.specs.Resolved.Core.{CoreTree, CoreTargetTree, CoreTrees}

abbrev pub target_kind : CoreTargetTree → CType
target_kind (core.target cell subscripts kind at) = kind

-- the type of an expression; int of a void call
abbrev pub kind_of : CoreTree → CType
kind_of (core.number value kind) = kind
kind_of (core.scalar cell kind at) = kind
kind_of (core.element array subscripts kind at) = kind
kind_of (core.call callee args kind at) = unwrap_or kind int_type
kind_of (core.unary op arg kind at) = kind
kind_of (core.binary op left right kind at) = kind
kind_of (core.choice test left right kind at colon) = kind
kind_of (core.cast to arg) = to
kind_of (core.assign place op value at) = target_kind place
kind_of (core.bump place up post at) = target_kind place
kind_of (core.comma left right) = kind_of right

-- those with a call, an assignment, `++`, `--` or a comma
abbrev mutual
  pub acts : CoreTree → Bool
  acts (core.number value kind) = false
  acts (core.scalar cell kind at) = false
  acts (core.element array subscripts kind at) = any_acts subscripts
  acts (core.call callee args kind at) = true
  acts (core.unary op arg kind at) = acts arg
  acts (core.binary op left right kind at) = acts left || acts right
  acts (core.choice test left right kind at colon) = acts test || acts left || acts right
  acts (core.cast to arg) = acts arg
  acts (core.assign place op value at) = true
  acts (core.bump place up post at) = true
  acts (core.comma left right) = true

  pub any_acts : CoreTrees → Bool
  any_acts core.none = false
  any_acts (core.more first rest) = acts first || any_acts rest
