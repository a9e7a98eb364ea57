-- The trees of expressions, an equation for each variant.
use Rattle.std.proofs.Common.{◌≡◌, ℕ, Box, Vec, Global, sym, ap, ◌∙◌}
use Rattle.hls_base.specs.declared.place.Place.{Place}
use Rattle.hls_base.specs.declared.number.ArrayId.{ArrayId}
use Rattle.hls_base.specs.declared.number.VarId.{VarId}
use Rattle.c_token.specs.declared.ctype.CType.{CType}
use Rattle.c_tree.specs.declared.operator.Unary.{Unary}
use Rattle.c_tree.specs.declared.operator.Binary.{Binary}
use Rattle.pieces.specs.declared.pure_expr.Pure.{Pure}
use Rattle.pieces.specs.declared.pure_expr.Pure.TheVariants as p
use Rattle.pieces.specs.declared.pure_expr.Pure.TheOpen.{Pure-F}
use Rattle.pieces.specs.declared.pure_expr.Pure.TheFolds.{fold-roll-Pure}
use Rattle.pieces.specs.Trees as tree
use Rattle.pieces.specs.Trees.{PureTree}
use Rattle.pieces.specs.View.{pure_of, pures_of, pure_step}

pub element_tree : (array : ArrayId) (subscripts : Vec Pure Global) (kind : CType) (at : Place) → pure_of (p.Element array subscripts kind at) ≡ tree.element array (pures_of subscripts.items) kind at
element_tree array subscripts kind at = ap pure_of (sym (p.rolls-Element array subscripts kind at)) ∙ fold-roll-Pure PureTree pure_step (Pure-F.Element array subscripts kind at)

pub unary_tree : (op : Unary) (arg : Box Pure Global) (kind : CType) (at : Place) → pure_of (p.Unary op arg kind at) ≡ tree.unary op (pure_of arg.value) kind at
unary_tree op arg kind at = ap pure_of (sym (p.rolls-Unary op arg kind at)) ∙ fold-roll-Pure PureTree pure_step (Pure-F.Unary op arg kind at)

pub binary_tree : (op : Binary) (left right : Box Pure Global) (kind : CType) (at : Place) → pure_of (p.Binary op left right kind at) ≡ tree.binary op (pure_of left.value) (pure_of right.value) kind at
binary_tree op left right kind at = ap pure_of (sym (p.rolls-Binary op left right kind at)) ∙ fold-roll-Pure PureTree pure_step (Pure-F.Binary op left right kind at)

pub choice_tree : (test left right : Box Pure Global) (kind : CType) → pure_of (p.Choice test left right kind) ≡ tree.choice (pure_of test.value) (pure_of left.value) (pure_of right.value) kind
choice_tree test left right kind = ap pure_of (sym (p.rolls-Choice test left right kind)) ∙ fold-roll-Pure PureTree pure_step (Pure-F.Choice test left right kind)

pub cast_tree : (to : CType) (arg : Box Pure Global) → pure_of (p.Cast to arg) ≡ tree.cast to (pure_of arg.value)
cast_tree to arg = ap pure_of (sym (p.rolls-Cast to arg)) ∙ fold-roll-Pure PureTree pure_step (Pure-F.Cast to arg)

pub number_tree : (value : ℕ) (kind : CType) → pure_of (p.Number value kind) ≡ tree.number value kind
number_tree value kind = ap pure_of (sym (p.rolls-Number value kind)) ∙ fold-roll-Pure PureTree pure_step (Pure-F.Number value kind)

pub variable_tree : (name : VarId) (kind : CType) → pure_of (p.Variable name kind) ≡ tree.variable name kind
variable_tree name kind = ap pure_of (sym (p.rolls-Variable name kind)) ∙ fold-roll-Pure PureTree pure_step (Pure-F.Variable name kind)
