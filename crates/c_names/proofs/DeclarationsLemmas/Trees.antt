-- The trees of expressions, one equation for each variant.
use Rattle.std.proofs.Common.{◌≡◌, Option, Box, Global, sym, ap, ◌∙◌}
use Rattle.hls_base.specs.declared.place.Place.{Place}
use Rattle.c_tree.specs.declared.operator.Binary.{Binary}
use Rattle.c_tree.specs.declared.expression.Expr.{Expr}
use Rattle.c_tree.specs.declared.expression.Expr.TheVariants as e
use Rattle.c_tree.specs.declared.expression.Expr.TheOpen.{Expr-F}
use Rattle.c_tree.specs.declared.expression.Expr.TheFolds.{fold-roll-Expr}
use Rattle.c_tree.specs.declared.expression.Target.{Target}
use Rattle.c_tree.specs.Tree as tree
use Rattle.c_tree.specs.Tree.{Tree, TargetTree}
use Rattle.c_tree.specs.View.{tree_of, target_of, tree_step, target_step}

pub binary_tree : (op : Binary) (l r : Box Expr Global) (at : Place) → tree_of (e.Binary op l r at) ≡ tree.binary op (tree_of l.value) (tree_of r.value) at
binary_tree op l r at = ap tree_of (sym (e.rolls-Binary op l r at)) ∙ fold-roll-Expr Tree TargetTree tree_step target_step (Expr-F.Binary op l r at)

pub choice_tree : (t l r : Box Expr Global) (at colon : Place) → tree_of (e.Choice t l r at colon) ≡ tree.choice (tree_of t.value) (tree_of l.value) (tree_of r.value) at colon
choice_tree t l r at colon = ap tree_of (sym (e.rolls-Choice t l r at colon)) ∙ fold-roll-Expr Tree TargetTree tree_step target_step (Expr-F.Choice t l r at colon)

pub assign_tree : (t : Target) (op : Option Binary) (v : Box Expr Global) (at : Place) → tree_of (e.Assign t op v at) ≡ tree.assign (target_of t) op (tree_of v.value) at
assign_tree t op v at = ap tree_of (sym (e.rolls-Assign t op v at)) ∙ fold-roll-Expr Tree TargetTree tree_step target_step (Expr-F.Assign t op v at)

pub comma_tree : (l r : Box Expr Global) (at : Place) → tree_of (e.Comma l r at) ≡ tree.comma (tree_of l.value) (tree_of r.value) at
comma_tree l r at = ap tree_of (sym (e.rolls-Comma l r at)) ∙ fold-roll-Expr Tree TargetTree tree_step target_step (Expr-F.Comma l r at)
