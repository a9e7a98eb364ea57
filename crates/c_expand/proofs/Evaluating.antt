-- Targets and elements, behind their subscripts.
use Rattle.std.specs.Borrow.{Bor}
use Rattle.std.proofs.Common.{◌≡◌, Vec, Global, Option, List, [], map, ap, ◌∙◌}
use Rattle.hls_base.specs.declared.place.Place.{Place}
use Rattle.hls_base.specs.declared.refusal.Refusal.{Refusal}
use Rattle.c_tree.specs.declared.operator.Binary.{Binary}
use Rattle.pieces.specs.declared.resolved.expression.CoreExpr.{CoreExpr}
use Rattle.pieces.specs.declared.resolved.expression.CoreTarget.{CoreTarget}
use Rattle.c_token.specs.declared.ctype.CType.{CType}
use Rattle.pieces.specs.Resolved.Core as core
use Rattle.pieces.specs.Resolved.Core.{CoreTree, CoreTargetTree, row}
use Rattle.pieces.specs.Resolved.CoreView.{core_of, core_target_of}
use Rattle.pieces.specs.declared.pure_expr.Pure.{Pure}
use Rattle.pieces.specs.View.{pures_of}
use Rattle.pieces.specs.Trees as tree
use Rattle.pieces.specs.Trees.{PureTree}
use Rattle.piece_making.specs.declared.effects.Effects.{Effects}
use Rattle.piece_making.specs.Calls.{Call}
use Rattle.piece_making.specs.declared.assignments.Change as declared
use Rattle.piece_making.specs.Acting.{either, effects}
use Rattle.piece_making.specs.Assigning.{Change, change, change_of}
use Rattle.piece_making.specs.Stocks.{Stock, state_of, IsMade, IsTooHeavy}
use Rattle.piece_making.proofs.Parts.{made_behind, heavy_at_once, heavy_behind}
use Rattle.c_expand.specs.Expressions.{Callee, expression, operands, targeted, chosen}
use Rattle.c_expand.proofs.Leading.{given, made_as, heavy_as, as_made, as_heavy}
use Rattle.c_expand.proofs.CoreForms.{target_core}

module _ (f : Callee) (c : Call) (t : CoreTarget) (xs : List CoreExpr) (later later1 : Effects) (op : Option Binary) (at : Place) (old : Stock) (row_is : xs ≡ t.subscripts.items) (is : later ≡ later1) where
  operands_so : operands f c (row (map core_of xs)) later [] (state_of old) ≡ operands f c (row (map core_of t.subscripts.items)) later1 [] (state_of old)
  operands_so =
      ap (λ (ys : List CoreExpr). operands f c (row (map core_of ys)) later [] (state_of old)) row_is
      ∙ ap (λ (l : Effects). operands f c (row (map core_of t.subscripts.items)) l [] (state_of old)) is

  pub targeted_made : (new : Stock) (values : List PureTree) (v : Change) → IsMade old new values (operands f c (row (map core_of xs)) later [] (state_of old))
      → v ≡ change t.cell t.kind t.at (tree.row values) op at → IsMade old new v (targeted f c (core_target_of t) later1 op at (state_of old))
  targeted_made new values v h same =
      as_made (λ (x : CoreTargetTree) s. targeted f c x later1 op at s) _ _ _ _ _ (target_core t) (made_behind _ _ _ _ _ _ _ (made_as _ _ _ _ _ operands_so h) (given _ _ _ same))

  pub targeted_heavy : (r : Refusal) → IsTooHeavy old r (operands f c (row (map core_of xs)) later [] (state_of old)) → IsTooHeavy old r (targeted f c (core_target_of t) later1 op at (state_of old))
  targeted_heavy r h = as_heavy (λ (x : CoreTargetTree) s. targeted f c x later1 op at s) _ _ _ _ (target_core t) (heavy_at_once _ _ _ _ (heavy_as _ _ _ _ operands_so h))

-- a `++` or `--`
pub bump_is : (t : Bor CoreTarget) (values : Vec Pure Global) (op : Option Binary) (at : Place) (m : declared.Change) → m.target ≡ t → m.subscripts ≡ values → m.op ≡ op → m.at ≡ at
    → change_of m ≡ change t.now.cell t.now.kind t.now.at (pures_of values.items) op at
bump_is t values op at m e f g h = cc

-- a `?:` behind its test
module _ (f : Callee) (c : Call) (e test left right : CoreTree) (k : CType) (at colon : Place) (old : Stock) (is : e ≡ core.choice test left right k at colon) where
  pub choice_made : (mid new : Stock) (t v : PureTree) → IsMade old mid t (expression f c test (state_of old))
      → IsMade mid new v (chosen c k at colon t (either (effects left) (effects right)) (expression f c left) (expression f c right) (state_of mid))
      → IsMade old new v (expression f c e (state_of old))
  choice_made mid new t v h g = as_made (λ (x : CoreTree) s. expression f c x s) _ _ _ _ _ is (made_behind _ _ _ _ _ _ _ h g)

  pub choice_heavy : (mid : Stock) (t : PureTree) (r : Refusal) → IsMade old mid t (expression f c test (state_of old))
      → IsTooHeavy mid r (chosen c k at colon t (either (effects left) (effects right)) (expression f c left) (expression f c right) (state_of mid))
      → IsTooHeavy old r (expression f c e (state_of old))
  choice_heavy mid t r h g = as_heavy (λ (x : CoreTree) s. expression f c x s) _ _ _ _ is (heavy_behind _ _ _ _ _ _ h g)

  pub choice_heavy_test : (r : Refusal) → IsTooHeavy old r (expression f c test (state_of old)) → IsTooHeavy old r (expression f c e (state_of old))
  choice_heavy_test r h = as_heavy (λ (x : CoreTree) s. expression f c x s) _ _ _ _ is (heavy_at_once _ _ _ _ h)
