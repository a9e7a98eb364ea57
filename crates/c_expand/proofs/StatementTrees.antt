-- The trees of statements and arguments, an equation for each variant. Where a part lies in memory of its own, it is what is read there.
use Rattle.std.proofs.Common.{◌≡◌, ℕ, List, Option, Some, None, map, Box, Vec, Global, sym, ap, ◌∙◌}
use Rattle.std.specs.Option.{option_map}
use Rattle.hls_base.specs.declared.place.Place.{Place}
use Rattle.pieces.specs.declared.resolved.expression.Argument.TheVariants as a
use Rattle.pieces.specs.declared.resolved.expression.Argument.TheOpen.{Argument-F}
use Rattle.pieces.specs.declared.resolved.expression.Argument.TheFolds.{fold-roll-Argument}
use Rattle.pieces.specs.declared.resolved.expression.Cell.{Cell}
use Rattle.pieces.specs.declared.resolved.expression.CoreExpr.{CoreExpr}
use Rattle.pieces.specs.declared.resolved.statement.CoreAction.{CoreAction}
use Rattle.pieces.specs.declared.resolved.statement.CoreElse.{CoreElse}
use Rattle.pieces.specs.declared.resolved.statement.CoreInit.{CoreInit}
use Rattle.pieces.specs.declared.resolved.statement.CoreStmt.{CoreStmt}
use Rattle.pieces.specs.declared.resolved.statement.CoreStmt.TheVariants as s
use Rattle.pieces.specs.declared.resolved.statement.CoreStmt.TheOpen.{CoreStmt-F}
use Rattle.pieces.specs.declared.resolved.statement.CoreStmt.TheFolds.{fold-roll-CoreStmt, fold_out-CoreElse}
use Rattle.pieces.specs.Resolved.Core as core
use Rattle.pieces.specs.Resolved.Core.{CoreTree, CoreTargetTree, ArgumentTree, CoreStmtTree, CoreElseTree, stmt_row}
use Rattle.pieces.specs.Resolved.CoreView.{core_of, core_argument_of, core_step, argument_step, target_step, core_action_of, core_init_of, core_stmt_of, core_else_of, core_else_part, core_stmt_step, core_else_step}

pub block_tree : (objects : Vec ℕ Global) (body : Vec CoreStmt Global) (xs : List CoreStmt) → xs ≡ body.items
    → core_stmt_of (s.Block objects body) ≡ core.block objects.items (stmt_row (map core_stmt_of xs))
block_tree objects body xs e =
    ap core_stmt_of (sym (s.rolls-Block objects body)) ∙ fold-roll-CoreStmt CoreStmtTree CoreElseTree core_stmt_step core_else_step (CoreStmt-F.Block objects body)
    ∙ ap (λ (ys : List CoreStmt). core.block objects.items (stmt_row (map core_stmt_of ys))) (sym e)

pub declare_tree : (object : ℕ) (init : CoreInit) → core_stmt_of (s.Declare object init) ≡ core.declare object (core_init_of init)
declare_tree object init = ap core_stmt_of (sym (s.rolls-Declare object init)) ∙ fold-roll-CoreStmt CoreStmtTree CoreElseTree core_stmt_step core_else_step (CoreStmt-F.Declare object init)

pub act_tree : (list : Vec CoreAction Global) (xs : List CoreAction) → xs ≡ list.items → core_stmt_of (s.Act list) ≡ core.act (map core_action_of xs)
act_tree list xs e = ap core_stmt_of (sym (s.rolls-Act list)) ∙ fold-roll-CoreStmt CoreStmtTree CoreElseTree core_stmt_step core_else_step (CoreStmt-F.Act list) ∙ ap (λ (ys : List CoreAction). core.act (map core_action_of ys)) (sym e)

if_rolled : (test : CoreExpr) (body : Box CoreStmt Global) (other : Option CoreElse) (at : Place)
    → core_stmt_of (s.If test body other at) ≡ core.if_ (core_of test) (core_stmt_of body.value) (core_else_part (option_map core_else_of other)) at
if_rolled test body None at = ap core_stmt_of (sym (s.rolls-If test body None at)) ∙ fold-roll-CoreStmt CoreStmtTree CoreElseTree core_stmt_step core_else_step (CoreStmt-F.If test body None at)
if_rolled test body (Some e) at = ap core_stmt_of (sym (s.rolls-If test body (Some e) at)) ∙ fold-roll-CoreStmt CoreStmtTree CoreElseTree core_stmt_step core_else_step (CoreStmt-F.If test body (Some e) at)

pub if_tree : (test : CoreExpr) (body : Box CoreStmt Global) (other : Option CoreElse) (at : Place) (x : CoreStmt) → x ≡ body.value
    → core_stmt_of (s.If test body other at) ≡ core.if_ (core_of test) (core_stmt_of x) (core_else_part (option_map core_else_of other)) at
if_tree test body other at x e =
    if_rolled test body other at ∙ ap (λ (y : CoreStmt). core.if_ (core_of test) (core_stmt_of y) (core_else_part (option_map core_else_of other)) at) (sym e)

pub else_tree : (other : CoreElse) (x : CoreStmt) → x ≡ other.body.value → core_else_of other ≡ core.else_ other.at (core_stmt_of x)
else_tree other x e = fold_out-CoreElse CoreStmtTree CoreElseTree core_stmt_step core_else_step other ∙ ap (λ (y : CoreStmt). core.else_ other.at (core_stmt_of y)) (sym e)

pub switch_tree : (test : CoreExpr) (objects : Vec ℕ Global) (body : Vec CoreStmt Global) (at : Place) (xs : List CoreStmt) → xs ≡ body.items
    → core_stmt_of (s.Switch test objects body at) ≡ core.switch_ (core_of test) objects.items (stmt_row (map core_stmt_of xs)) at
switch_tree test objects body at xs e =
    ap core_stmt_of (sym (s.rolls-Switch test objects body at)) ∙ fold-roll-CoreStmt CoreStmtTree CoreElseTree core_stmt_step core_else_step (CoreStmt-F.Switch test objects body at)
    ∙ ap (λ (ys : List CoreStmt). core.switch_ (core_of test) objects.items (stmt_row (map core_stmt_of ys)) at) (sym e)

pub case_tree : (value : Option ℕ) (body : Box CoreStmt Global) (at : Place) (x : CoreStmt) → x ≡ body.value → core_stmt_of (s.Case value body at) ≡ core.case_ value (core_stmt_of x) at
case_tree value body at x e =
    ap core_stmt_of (sym (s.rolls-Case value body at)) ∙ fold-roll-CoreStmt CoreStmtTree CoreElseTree core_stmt_step core_else_step (CoreStmt-F.Case value body at)
    ∙ ap (λ (y : CoreStmt). core.case_ value (core_stmt_of y) at) (sym e)

pub while_tree : (test : CoreExpr) (body : Box CoreStmt Global) (at : Place) (x : CoreStmt) → x ≡ body.value → core_stmt_of (s.While test body at) ≡ core.while_ (core_of test) (core_stmt_of x) at
while_tree test body at x e =
    ap core_stmt_of (sym (s.rolls-While test body at)) ∙ fold-roll-CoreStmt CoreStmtTree CoreElseTree core_stmt_step core_else_step (CoreStmt-F.While test body at)
    ∙ ap (λ (y : CoreStmt). core.while_ (core_of test) (core_stmt_of y) at) (sym e)

pub do_tree : (body : Box CoreStmt Global) (test : CoreExpr) (at : Place) (x : CoreStmt) → x ≡ body.value → core_stmt_of (s.Do body test at) ≡ core.do_ (core_stmt_of x) (core_of test) at
do_tree body test at x e =
    ap core_stmt_of (sym (s.rolls-Do body test at)) ∙ fold-roll-CoreStmt CoreStmtTree CoreElseTree core_stmt_step core_else_step (CoreStmt-F.Do body test at)
    ∙ ap (λ (y : CoreStmt). core.do_ (core_stmt_of y) (core_of test) at) (sym e)

pub for_tree : (objects : Vec ℕ Global) (init : Vec CoreStmt Global) (test : Option CoreExpr) (step : Vec CoreAction Global) (body : Box CoreStmt Global) (at : Place)
    (xs : List CoreStmt) (ss : List CoreAction) (x : CoreStmt) → xs ≡ init.items → ss ≡ step.items → x ≡ body.value
    → core_stmt_of (s.For objects init test step body at) ≡ core.for_ objects.items (stmt_row (map core_stmt_of xs)) (option_map core_of test) (map core_action_of ss) (core_stmt_of x) at
for_tree objects init test step body at xs ss x d e f =
    ap core_stmt_of (sym (s.rolls-For objects init test step body at)) ∙ fold-roll-CoreStmt CoreStmtTree CoreElseTree core_stmt_step core_else_step (CoreStmt-F.For objects init test step body at)
    ∙ (ap (λ (ys : List CoreStmt). core.for_ objects.items (stmt_row (map core_stmt_of ys)) (option_map core_of test) (map core_action_of step.items) (core_stmt_of body.value) at) (sym d)
    ∙ (ap (λ (ts : List CoreAction). core.for_ objects.items (stmt_row (map core_stmt_of xs)) (option_map core_of test) (map core_action_of ts) (core_stmt_of body.value) at) (sym e)
    ∙ ap (λ (y : CoreStmt). core.for_ objects.items (stmt_row (map core_stmt_of xs)) (option_map core_of test) (map core_action_of ss) (core_stmt_of y) at) (sym f)))

pub break_tree : core_stmt_of s.Break ≡ core.break_
break_tree = ap core_stmt_of (sym s.rolls-Break) ∙ fold-roll-CoreStmt CoreStmtTree CoreElseTree core_stmt_step core_else_step CoreStmt-F.Break

pub continue_tree : core_stmt_of s.Continue ≡ core.continue_
continue_tree = ap core_stmt_of (sym s.rolls-Continue) ∙ fold-roll-CoreStmt CoreStmtTree CoreElseTree core_stmt_step core_else_step CoreStmt-F.Continue

pub return_tree : (value : Option CoreExpr) → core_stmt_of (s.Return value) ≡ core.return_ (option_map core_of value)
return_tree value = ap core_stmt_of (sym (s.rolls-Return value)) ∙ fold-roll-CoreStmt CoreStmtTree CoreElseTree core_stmt_step core_else_step (CoreStmt-F.Return value)

pub value_tree : (e : CoreExpr) → core_argument_of (a.Value e) ≡ core.given (core_of e)
value_tree e = ap core_argument_of (sym (a.rolls-Value e)) ∙ fold-roll-Argument ArgumentTree CoreTree CoreTargetTree argument_step core_step target_step (Argument-F.Value e)

pub array_tree : (cell : Cell) → core_argument_of (a.Array cell) ≡ core.array cell
array_tree cell = ap core_argument_of (sym (a.rolls-Array cell)) ∙ fold-roll-Argument ArgumentTree CoreTree CoreTargetTree argument_step core_step target_step (Argument-F.Array cell)
