-- The trees of expressions of a core program, an equation for each variant.
use Rattle.std.proofs.Common.{◌≡◌, ℕ, Bool, Option, Box, Vec, Global, map, sym, ap, ◌∙◌}
use Rattle.hls_base.specs.declared.place.Place.{Place}
use Rattle.c_token.specs.declared.ctype.CType.{CType}
use Rattle.c_tree.specs.declared.operator.Unary.{Unary}
use Rattle.c_tree.specs.declared.operator.Binary.{Binary}
use Rattle.pieces.specs.declared.resolved.expression.Cell.{Cell}
use Rattle.pieces.specs.declared.resolved.expression.Argument.{Argument}
use Rattle.pieces.specs.declared.resolved.expression.CoreTarget.{CoreTarget}
use Rattle.pieces.specs.declared.resolved.expression.CoreExpr.{CoreExpr}
use Rattle.pieces.specs.declared.resolved.expression.CoreExpr.TheVariants as v
use Rattle.pieces.specs.declared.resolved.expression.Argument.TheOpen.{CoreExpr-F}
use Rattle.pieces.specs.declared.resolved.expression.Argument.TheFolds.{fold-roll-CoreExpr, fold_out-CoreTarget}
use Rattle.pieces.specs.Resolved.Core as core
use Rattle.pieces.specs.Resolved.Core.{CoreTree, CoreTargetTree, ArgumentTree, row, argument_row}
use Rattle.pieces.specs.Resolved.CoreView.{core_of, core_argument_of, core_target_of, argument_step, core_step, target_step}

pub element_core : (array : Cell) (subscripts : Vec CoreExpr Global) (kind : CType) (at : Place) → core_of (v.Element array subscripts kind at) ≡ core.element array (row (map core_of subscripts.items)) kind at
element_core array subscripts kind at = ap core_of (sym (v.rolls-Element array subscripts kind at)) ∙ fold-roll-CoreExpr ArgumentTree CoreTree CoreTargetTree argument_step core_step target_step (CoreExpr-F.Element array subscripts kind at)

pub call_core : (callee : ℕ) (args : Vec Argument Global) (kind : Option CType) (at : Place) → core_of (v.Call callee args kind at) ≡ core.call callee (argument_row (map core_argument_of args.items)) kind at
call_core callee args kind at = ap core_of (sym (v.rolls-Call callee args kind at)) ∙ fold-roll-CoreExpr ArgumentTree CoreTree CoreTargetTree argument_step core_step target_step (CoreExpr-F.Call callee args kind at)

pub unary_core : (op : Unary) (arg : Box CoreExpr Global) (kind : CType) (at : Place) → core_of (v.Unary op arg kind at) ≡ core.unary op (core_of arg.value) kind at
unary_core op arg kind at = ap core_of (sym (v.rolls-Unary op arg kind at)) ∙ fold-roll-CoreExpr ArgumentTree CoreTree CoreTargetTree argument_step core_step target_step (CoreExpr-F.Unary op arg kind at)

pub binary_core : (op : Binary) (left right : Box CoreExpr Global) (kind : CType) (at : Place) → core_of (v.Binary op left right kind at) ≡ core.binary op (core_of left.value) (core_of right.value) kind at
binary_core op left right kind at = ap core_of (sym (v.rolls-Binary op left right kind at)) ∙ fold-roll-CoreExpr ArgumentTree CoreTree CoreTargetTree argument_step core_step target_step (CoreExpr-F.Binary op left right kind at)

pub choice_core : (test left right : Box CoreExpr Global) (kind : CType) (at colon : Place) → core_of (v.Choice test left right kind at colon) ≡ core.choice (core_of test.value) (core_of left.value) (core_of right.value) kind at colon
choice_core test left right kind at colon = ap core_of (sym (v.rolls-Choice test left right kind at colon)) ∙ fold-roll-CoreExpr ArgumentTree CoreTree CoreTargetTree argument_step core_step target_step (CoreExpr-F.Choice test left right kind at colon)

pub cast_core : (to : CType) (arg : Box CoreExpr Global) → core_of (v.Cast to arg) ≡ core.cast to (core_of arg.value)
cast_core to arg = ap core_of (sym (v.rolls-Cast to arg)) ∙ fold-roll-CoreExpr ArgumentTree CoreTree CoreTargetTree argument_step core_step target_step (CoreExpr-F.Cast to arg)

pub assign_core : (t : CoreTarget) (op : Option Binary) (value : Box CoreExpr Global) (at : Place) → core_of (v.Assign t op value at) ≡ core.assign (core_target_of t) op (core_of value.value) at
assign_core t op value at = ap core_of (sym (v.rolls-Assign t op value at)) ∙ fold-roll-CoreExpr ArgumentTree CoreTree CoreTargetTree argument_step core_step target_step (CoreExpr-F.Assign t op value at)

pub bump_core : (t : CoreTarget) (up post : Bool) (at : Place) → core_of (v.Bump t up post at) ≡ core.bump (core_target_of t) up post at
bump_core t up post at = ap core_of (sym (v.rolls-Bump t up post at)) ∙ fold-roll-CoreExpr ArgumentTree CoreTree CoreTargetTree argument_step core_step target_step (CoreExpr-F.Bump t up post at)

pub comma_core : (left right : Box CoreExpr Global) → core_of (v.Comma left right) ≡ core.comma (core_of left.value) (core_of right.value)
comma_core left right = ap core_of (sym (v.rolls-Comma left right)) ∙ fold-roll-CoreExpr ArgumentTree CoreTree CoreTargetTree argument_step core_step target_step (CoreExpr-F.Comma left right)

pub target_core : (t : CoreTarget) → core_target_of t ≡ core.target t.cell (row (map core_of t.subscripts.items)) t.kind t.at
target_core t = fold_out-CoreTarget ArgumentTree CoreTree CoreTargetTree argument_step core_step target_step t

pub number_core : (value : ℕ) (kind : CType) → core_of (v.Number value kind) ≡ core.number value kind
number_core value kind = ap core_of (sym (v.rolls-Number value kind)) ∙ fold-roll-CoreExpr ArgumentTree CoreTree CoreTargetTree argument_step core_step target_step (CoreExpr-F.Number value kind)

pub scalar_core : (cell : Cell) (kind : CType) (at : Place) → core_of (v.Scalar cell kind at) ≡ core.scalar cell kind at
scalar_core cell kind at = ap core_of (sym (v.rolls-Scalar cell kind at)) ∙ fold-roll-CoreExpr ArgumentTree CoreTree CoreTargetTree argument_step core_step target_step (CoreExpr-F.Scalar cell kind at)

pub same_choice : (a a1 b b1 c c1 : CoreExpr) (kind : CType) (at colon : Place) → a ≡ a1 → b ≡ b1 → c ≡ c1 → core.choice (core_of a) (core_of b) (core_of c) kind at colon ≡ core.choice (core_of a1) (core_of b1) (core_of c1) kind at colon
same_choice a a1 b b1 c c1 kind at colon e f g = cc
