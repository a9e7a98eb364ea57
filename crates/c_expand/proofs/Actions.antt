-- Actions: expressions that stand by themselves, and the third part of a `for`.
use Rattle.std.proofs.Common.{◌≡◌, Bool, true, false, eqb, List, [], ◌∷◌, length, map, Option, Box, Global, refl, sym, ap, ◌∙◌}
use Rattle.std.proofs.lemmas.Bool.{false≢true}
use lib.Dec.{eqb-suc-zero}
use Rattle.hls_base.specs.declared.place.Place.{Place}
use Rattle.hls_base.specs.declared.point.PointKind.TheVariants as point
use Rattle.c_tree.specs.declared.operator.Binary.{Binary}
use Rattle.pieces.specs.declared.resolved.expression.CoreExpr.{CoreExpr}
use Rattle.pieces.specs.declared.resolved.expression.CoreExpr.TheVariants as e
use Rattle.pieces.specs.declared.resolved.expression.Argument.{Argument}
use Rattle.pieces.specs.declared.resolved.expression.Argument.TheOpen.{CoreExpr-F}
use Rattle.pieces.specs.declared.resolved.expression.Argument.TheFolds.{fold-roll-CoreExpr}
use Rattle.pieces.specs.declared.resolved.expression.Argument.TheViews.{out-CoreExpr, roll-CoreExpr, roll-out-CoreExpr}
use Rattle.pieces.specs.declared.resolved.expression.CoreTarget.{CoreTarget}
use Rattle.pieces.specs.declared.resolved.statement.CoreAction.{CoreAction}
use Rattle.pieces.specs.Resolved.Core.{CoreTree, CoreTargetTree, ArgumentTree}
use Rattle.pieces.specs.Resolved.CoreView.{core_of, core_step, argument_step, target_step, core_action_of}
use Rattle.piece_making.specs.Making.{State, gives, then_}
use Rattle.piece_making.specs.Calls.{Call}
use Rattle.c_expand.specs.Expressions.{Callee}
use Rattle.c_expand.specs.Statements.{changed, valued, actions, stepped, marked}

module _ (f : Callee) (c : Call) (s : State) where
  as_valued : (x : CoreExpr-F Argument CoreExpr CoreTarget) (t : CoreTree) → core_of (roll-CoreExpr x) ≡ t → changed f c t s ≡ valued f c t s
      → changed f c (core_of (roll-CoreExpr x)) s ≡ valued f c (core_of (roll-CoreExpr x)) s
  as_valued x t is same = ap (λ z. changed f c z s) is ∙ (same ∙ sym (ap (λ z. valued f c z s) is))

  by_layer : (x : CoreExpr-F Argument CoreExpr CoreTarget)
      → ((t : CoreTarget) → (op : Option Binary) → (value : Box CoreExpr Global) → (at : Place) → x ≡ CoreExpr-F.Assign t op value at → ⊥)
      → ((t : CoreTarget) → (up post : Bool) → (at : Place) → x ≡ CoreExpr-F.Bump t up post at → ⊥)
      → changed f c (core_of (roll-CoreExpr x)) s ≡ valued f c (core_of (roll-CoreExpr x)) s
  unfolding changed
  by_layer (CoreExpr-F.Assign t op value at) no_assign no_bump = absurd (no_assign t op value at refl)
  by_layer (CoreExpr-F.Bump t up post at) no_assign no_bump = absurd (no_bump t up post at refl)
  by_layer (CoreExpr-F.Number value kind) no_assign no_bump = as_valued (CoreExpr-F.Number value kind) _ (fold-roll-CoreExpr ArgumentTree CoreTree CoreTargetTree argument_step core_step target_step (CoreExpr-F.Number value kind)) refl
  by_layer (CoreExpr-F.Scalar cell kind at) no_assign no_bump = as_valued (CoreExpr-F.Scalar cell kind at) _ (fold-roll-CoreExpr ArgumentTree CoreTree CoreTargetTree argument_step core_step target_step (CoreExpr-F.Scalar cell kind at)) refl
  by_layer (CoreExpr-F.Element array subscripts kind at) no_assign no_bump = as_valued (CoreExpr-F.Element array subscripts kind at) _ (fold-roll-CoreExpr ArgumentTree CoreTree CoreTargetTree argument_step core_step target_step (CoreExpr-F.Element array subscripts kind at)) refl
  by_layer (CoreExpr-F.Call callee args kind at) no_assign no_bump = as_valued (CoreExpr-F.Call callee args kind at) _ (fold-roll-CoreExpr ArgumentTree CoreTree CoreTargetTree argument_step core_step target_step (CoreExpr-F.Call callee args kind at)) refl
  by_layer (CoreExpr-F.Unary op arg kind at) no_assign no_bump = as_valued (CoreExpr-F.Unary op arg kind at) _ (fold-roll-CoreExpr ArgumentTree CoreTree CoreTargetTree argument_step core_step target_step (CoreExpr-F.Unary op arg kind at)) refl
  by_layer (CoreExpr-F.Binary op left right kind at) no_assign no_bump = as_valued (CoreExpr-F.Binary op left right kind at) _ (fold-roll-CoreExpr ArgumentTree CoreTree CoreTargetTree argument_step core_step target_step (CoreExpr-F.Binary op left right kind at)) refl
  by_layer (CoreExpr-F.Choice test left right kind at colon) no_assign no_bump = as_valued (CoreExpr-F.Choice test left right kind at colon) _ (fold-roll-CoreExpr ArgumentTree CoreTree CoreTargetTree argument_step core_step target_step (CoreExpr-F.Choice test left right kind at colon)) refl
  by_layer (CoreExpr-F.Cast to arg) no_assign no_bump = as_valued (CoreExpr-F.Cast to arg) _ (fold-roll-CoreExpr ArgumentTree CoreTree CoreTargetTree argument_step core_step target_step (CoreExpr-F.Cast to arg)) refl
  by_layer (CoreExpr-F.Comma left right) no_assign no_bump = as_valued (CoreExpr-F.Comma left right) _ (fold-roll-CoreExpr ArgumentTree CoreTree CoreTargetTree argument_step core_step target_step (CoreExpr-F.Comma left right)) refl

  -- any other expression than an assignment, `++` or `--`
  pub other_changed : (x : CoreExpr)
      → ((t : CoreTarget) → (op : Option Binary) → (value : Box CoreExpr Global) → (at : Place) → x ≡ e.Assign t op value at → ⊥)
      → ((t : CoreTarget) → (up post : Bool) → (at : Place) → x ≡ e.Bump t up post at → ⊥)
      → changed f c (core_of x) s ≡ valued f c (core_of x) s
  other_changed x no_assign no_bump =
      let rolled = roll-out-CoreExpr x in
      ap (λ z. changed f c (core_of z) s) (sym rolled)
      ∙ (by_layer (out-CoreExpr x)
      (λ t op value at is. no_assign t op value at (sym rolled ∙ (ap roll-CoreExpr is ∙ e.rolls-Assign t op value at)))
      (λ t up post at is. no_bump t up post at (sym rolled ∙ (ap roll-CoreExpr is ∙ e.rolls-Bump t up post at)))
      ∙ ap (λ z. valued f c (core_of z) s) rolled)

  pub no_step : (list : List CoreAction) (at : Place) → eqb (length list) 0 ≡ true → stepped f c (map core_action_of list) at s ≡ gives tt s
  unfolding stepped
  no_step [] at is = refl
  no_step (x ∷ xs) at is = absurd (false≢true (sym (eqb-suc-zero (length xs)) ∙ is))

  pub some_steps : (list : List CoreAction) (at : Place) → eqb (length list) 0 ≡ false
      → stepped f c (map core_action_of list) at s ≡ then_ (marked c point.Step at s) (λ u s1. actions f c (map core_action_of list) s1)
  unfolding stepped
  some_steps [] at is = absurd (false≢true (sym is))
  some_steps (x ∷ xs) at is = refl
