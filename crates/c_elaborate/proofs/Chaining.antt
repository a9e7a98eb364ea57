-- Operators around an expression, one more at the innermost.
use Rattle.std.proofs.Common.{◌≡◌, List, [], ◌∷◌, ◌++◌, Option, Box, Global, refl, sym, ap, ◌∙◌}
use Rattle.hls_base.specs.declared.place.Place.{Place}
use Rattle.c_token.specs.declared.ctype.CType.{CType}
use Rattle.c_tree.specs.declared.operator.Unary.{Unary}
use Rattle.c_tree.specs.declared.operator.Binary.{Binary}
use Rattle.c_tree.specs.declared.expression.Expr.{Expr}
use Rattle.c_tree.specs.declared.expression.Expr.TheVariants as e
use Rattle.c_tree.specs.declared.expression.Target.{Target}
use Rattle.c_tree.specs.View.{tree_of, target_of}
use Rattle.pieces.specs.declared.resolved.expression.CoreExpr.{CoreExpr}
use Rattle.pieces.specs.declared.resolved.expression.CoreTarget.{CoreTarget}
use Rattle.c_elaborate.specs.declared.chains.Step.{Step}
use Rattle.c_elaborate.specs.declared.chains.Step.TheVariants as s
use Rattle.c_elaborate.specs.declared.functions.Signature.{Signature}
use Rattle.c_elaborate.specs.declared.names.Binding.{Binding}
use Rattle.pieces.specs.Resolved.Core as core
use Rattle.pieces.specs.Resolved.Core.{CoreTree, CoreTargetTree}
use Rattle.pieces.specs.Resolved.CoreView.{core_of, core_target_of}
use Rattle.c_elaborate.specs.Chains.{step, steps}
use Rattle.c_elaborate.specs.Expressions.{elaborated, target_elaborated, binary_of}
use Rattle.c_elaborate.proofs.Trees.{unary_tree, cast_tree, binary_tree, assign_tree, comma_tree}

pub steps_more : (ss : List Step) (s : Step) (part : CoreTree) → steps (ss ++ s ∷ []) part ≡ steps ss (step s part)
steps_more [] s part = refl
steps_more (t ∷ ss) s part = ap (step t) (steps_more ss s part)

module _ (fs : List Signature) (names : List Binding) where
  abbrev done : Expr → CoreTree
  done x = elaborated fs names (tree_of x)

  module _ (before after : List Step) (total : CoreTree) where
    one_more : (link : Step) (whole part : Expr) → after ≡ before ++ link ∷ [] → step link (done part) ≡ done whole → steps before (done whole) ≡ total → steps after (done part) ≡ total
    one_more link whole part grown same so_far = ap (λ ss. steps ss (done part)) grown ∙ steps_more before link (done part) ∙ ap (steps before) same ∙ so_far

    pub unary_more : (op : Unary) (arg : Box Expr Global) (at : Place) → after ≡ before ++ s.Unary op at ∷ []
        → steps before (done (e.Unary op arg at)) ≡ total → steps after (done arg.value) ≡ total
    unary_more op arg at grown so_far =
        one_more (s.Unary op at) (e.Unary op arg at) arg.value grown (sym (ap (elaborated fs names) (unary_tree op arg at))) so_far

    pub cast_more : (to : CType) (arg : Box Expr Global) (at : Place) → after ≡ before ++ s.Cast to ∷ []
        → steps before (done (e.Cast to arg at)) ≡ total → steps after (done arg.value) ≡ total
    cast_more to arg at grown so_far =
        one_more (s.Cast to) (e.Cast to arg at) arg.value grown (sym (ap (elaborated fs names) (cast_tree to arg at))) so_far

    pub binary_more : (op : Binary) (l r : Box Expr Global) (at : Place) (right : CoreExpr) → core_of right ≡ done r.value → after ≡ before ++ s.Binary op right at ∷ []
        → steps before (done (e.Binary op l r at)) ≡ total → steps after (done l.value) ≡ total
    binary_more op l r at right same grown so_far =
        one_more (s.Binary op right at) (e.Binary op l r at) l.value grown
        (ap (λ x. binary_of op (done l.value) x at) same ∙ sym (ap (elaborated fs names) (binary_tree op l r at))) so_far

    pub comma_more : (l r : Box Expr Global) (at : Place) (right : CoreExpr) → core_of right ≡ done r.value → after ≡ before ++ s.Comma right ∷ []
        → steps before (done (e.Comma l r at)) ≡ total → steps after (done l.value) ≡ total
    comma_more l r at right same grown so_far =
        one_more (s.Comma right) (e.Comma l r at) l.value grown
        (ap (λ x. core.comma (done l.value) x) same ∙ sym (ap (elaborated fs names) (comma_tree l r at))) so_far

    pub assign_more : (t : Target) (op : Option Binary) (v : Box Expr Global) (at : Place) (changed : CoreTarget) → core_target_of changed ≡ target_elaborated fs names (target_of t) → after ≡ before ++ s.Assign changed op at ∷ []
        → steps before (done (e.Assign t op v at)) ≡ total → steps after (done v.value) ≡ total
    assign_more t op v at changed same grown so_far =
        one_more (s.Assign changed op at) (e.Assign t op v at) v.value grown
        (ap (λ x. core.assign x op (done v.value) at) same ∙ sym (ap (elaborated fs names) (assign_tree t op v at))) so_far
