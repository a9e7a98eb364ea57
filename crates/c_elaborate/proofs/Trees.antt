-- The trees of expressions and statements, an equation for each variant that a proof names.
use Rattle.std.proofs.Common.{◌≡◌, Option, Some, None, map, Box, Vec, Global, refl, sym, ap, ◌∙◌}
use Rattle.std.specs.Option.{option_map}
use Rattle.hls_base.specs.declared.place.Place.{Place}
use Rattle.c_token.specs.declared.ctype.CType.{CType}
use Rattle.c_tree.specs.declared.operator.Unary.{Unary}
use Rattle.c_tree.specs.declared.operator.Binary.{Binary}
use Rattle.c_tree.specs.declared.expression.Expr.{Expr}
use Rattle.c_tree.specs.declared.expression.Expr.TheVariants as e
use Rattle.c_tree.specs.declared.expression.Expr.TheOpen.{Expr-F}
use Rattle.c_tree.specs.declared.expression.Expr.TheFolds.{fold-roll-Expr}
use Rattle.c_tree.specs.declared.expression.Target.{Target}
use Rattle.pieces.specs.declared.resolved.statement.CoreAction.{CoreAction}
use Rattle.pieces.specs.declared.resolved.statement.CoreStmt.TheVariants as cs
use Rattle.pieces.specs.declared.resolved.statement.CoreStmt.TheOpen.{CoreStmt-F}
use Rattle.pieces.specs.declared.resolved.statement.CoreStmt.TheFolds.{fold-roll-CoreStmt}
use Rattle.pieces.specs.Resolved.Core as core
use Rattle.pieces.specs.Resolved.Core.{CoreStmtTree, CoreElseTree}
use Rattle.pieces.specs.Resolved.CoreView.{core_stmt_of, core_action_of, core_stmt_step, core_else_step}
use Rattle.c_tree.specs.Tree as tree
use Rattle.c_tree.specs.declared.action.Action.{Action}
use Rattle.c_tree.specs.declared.statement.Else.{Else}
use Rattle.c_tree.specs.declared.statement.Stmt.{Stmt}
use Rattle.c_tree.specs.declared.statement.Stmt.TheVariants as s
use Rattle.c_tree.specs.declared.statement.Stmt.TheOpen.{Stmt-F}
use Rattle.c_tree.specs.declared.statement.Stmt.TheFolds.{fold-roll-Stmt}
use Rattle.c_tree.specs.Tree.{Tree, TargetTree, StmtTree, ElseTree}
use Rattle.c_tree.specs.View.{tree_of, target_of, tree_step, target_step, action_of, stmt_of, else_of, else_part, first_part, stmt_step, else_step}

pub unary_tree : (op : Unary) (arg : Box Expr Global) (at : Place) → tree_of (e.Unary op arg at) ≡ tree.unary op (tree_of arg.value) at
unary_tree op arg at = ap tree_of (sym (e.rolls-Unary op arg at)) ∙ fold-roll-Expr Tree TargetTree tree_step target_step (Expr-F.Unary op arg at)

pub cast_tree : (to : CType) (arg : Box Expr Global) (at : Place) → tree_of (e.Cast to arg at) ≡ tree.cast to (tree_of arg.value) at
cast_tree to arg at = ap tree_of (sym (e.rolls-Cast to arg at)) ∙ fold-roll-Expr Tree TargetTree tree_step target_step (Expr-F.Cast to arg at)

pub binary_tree : (op : Binary) (l r : Box Expr Global) (at : Place) → tree_of (e.Binary op l r at) ≡ tree.binary op (tree_of l.value) (tree_of r.value) at
binary_tree op l r at = ap tree_of (sym (e.rolls-Binary op l r at)) ∙ fold-roll-Expr Tree TargetTree tree_step target_step (Expr-F.Binary op l r at)

pub assign_tree : (t : Target) (op : Option Binary) (v : Box Expr Global) (at : Place) → tree_of (e.Assign t op v at) ≡ tree.assign (target_of t) op (tree_of v.value) at
assign_tree t op v at = ap tree_of (sym (e.rolls-Assign t op v at)) ∙ fold-roll-Expr Tree TargetTree tree_step target_step (Expr-F.Assign t op v at)

pub comma_tree : (l r : Box Expr Global) (at : Place) → tree_of (e.Comma l r at) ≡ tree.comma (tree_of l.value) (tree_of r.value) at
comma_tree l r at = ap tree_of (sym (e.rolls-Comma l r at)) ∙ fold-roll-Expr Tree TargetTree tree_step target_step (Expr-F.Comma l r at)

pub act_tree : (actions : Vec Action Global) → stmt_of (s.Act actions) ≡ tree.act (map action_of actions.items)
act_tree actions = ap stmt_of (sym (s.rolls-Act actions)) ∙ fold-roll-Stmt StmtTree ElseTree stmt_step else_step (Stmt-F.Act actions)

pub while_tree : (test : Expr) (body : Box Stmt Global) (at : Place) → stmt_of (s.While test body at) ≡ tree.while_ (tree_of test) (stmt_of body.value) at
while_tree test body at = ap stmt_of (sym (s.rolls-While test body at)) ∙ fold-roll-Stmt StmtTree ElseTree stmt_step else_step (Stmt-F.While test body at)

pub if_tree : (test : Expr) (body : Box Stmt Global) (other : Option Else) (at : Place) → stmt_of (s.If test body other at) ≡ tree.if_ (tree_of test) (stmt_of body.value) (else_part (option_map else_of other)) at
if_tree test body None at = ap stmt_of (sym (s.rolls-If test body None at)) ∙ fold-roll-Stmt StmtTree ElseTree stmt_step else_step (Stmt-F.If test body None at)
if_tree test body (Some other) at = ap stmt_of (sym (s.rolls-If test body (Some other) at)) ∙ fold-roll-Stmt StmtTree ElseTree stmt_step else_step (Stmt-F.If test body (Some other) at)

pub for_tree : (init : Option (Box Stmt Global)) (test : Option Expr) (step : Vec Action Global) (body : Box Stmt Global) (at : Place)
    → stmt_of (s.For init test step body at) ≡ tree.for_ (first_part (option_map (λ s. stmt_of s.value) init)) (option_map tree_of test) (map action_of step.items) (stmt_of body.value) at
for_tree None test step body at = ap stmt_of (sym (s.rolls-For None test step body at)) ∙ fold-roll-Stmt StmtTree ElseTree stmt_step else_step (Stmt-F.For None test step body at)
for_tree (Some init) test step body at = ap stmt_of (sym (s.rolls-For (Some init) test step body at)) ∙ fold-roll-Stmt StmtTree ElseTree stmt_step else_step (Stmt-F.For (Some init) test step body at)

pub core_act : (actions : Vec CoreAction Global) → core_stmt_of (cs.Act actions) ≡ core.act (map core_action_of actions.items)
core_act actions = ap core_stmt_of (sym (cs.rolls-Act actions)) ∙ fold-roll-CoreStmt CoreStmtTree CoreElseTree core_stmt_step core_else_step (CoreStmt-F.Act actions)
