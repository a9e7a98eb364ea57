-- Statements, one equation for each variant, and the names behind them.
use Rattle.std.proofs.Common.{◌≡◌, ℕ, ◌+◌, ◌-◌, ◌≤◌, Bool, true, false, List, [], ◌∷◌, ◌++◌, Option, Some, None, map, Box, Vec, Global, length, drop, refl, sym, ap, ◌∙◌, append_assoc, arith, length-append, if◌then◌else◌}
use Rattle.std.specs.Option.{option_map}
use Rattle.std.proofs.Math.Seq.{drop-append_seam}
use Rattle.hls_base.specs.declared.place.Place.{Place}
use Rattle.c_tree.specs.declared.expression.Expr.{Expr}
use Rattle.c_tree.specs.declared.action.Action.{Action}
use Rattle.c_tree.specs.declared.object.Object.{Object}
use Rattle.c_tree.specs.declared.statement.Stmt.{Stmt}
use Rattle.c_tree.specs.declared.statement.Stmt.TheVariants as s
use Rattle.c_tree.specs.declared.statement.Stmt.TheOpen.{Stmt-F}
use Rattle.c_tree.specs.declared.statement.Stmt.TheFolds.{fold-roll-Stmt, fold_out-Else}
use Rattle.c_tree.specs.declared.statement.Else.{Else}
use Rattle.c_tree.specs.Tree as tree
use Rattle.c_tree.specs.Tree.{StmtTree, ElseTree, ObjectTree, ParamTree}
use Rattle.c_tree.specs.View.{tree_of, action_of, object_of, stmt_of, stmts_of, else_of, else_part, first_part, stmt_step, else_step}
use Rattle.c_meaning.specs.Checks.Names.{Declared}
use Rattle.c_meaning.specs.Checks.Statements.{with_object, with_objects, with_param, with_params, names_behind, names_in_for}
use Rattle.c_names.specs.Declarations.Extended.{Extends}

-- ---- trees

pub block_tree : (body : Vec Stmt Global) → stmt_of (s.Block body) ≡ tree.block (stmts_of body.items)
block_tree body = ap stmt_of (sym (s.rolls-Block body)) ∙ fold-roll-Stmt StmtTree ElseTree stmt_step else_step (Stmt-F.Block body)

pub declare_tree : (os : Vec Object Global) → stmt_of (s.Declare os) ≡ tree.declare (map object_of os.items)
declare_tree os = ap stmt_of (sym (s.rolls-Declare os)) ∙ fold-roll-Stmt StmtTree ElseTree stmt_step else_step (Stmt-F.Declare os)

pub act_tree : (actions : Vec Action Global) → stmt_of (s.Act actions) ≡ tree.act (map action_of actions.items)
act_tree actions = ap stmt_of (sym (s.rolls-Act actions)) ∙ fold-roll-Stmt StmtTree ElseTree stmt_step else_step (Stmt-F.Act actions)

pub if_tree : (test : Expr) (body : Box Stmt Global) (other : Option Else) (at : Place) → stmt_of (s.If test body other at) ≡ tree.if_ (tree_of test) (stmt_of body.value) (else_part (option_map else_of other)) at
if_tree test body None at = ap stmt_of (sym (s.rolls-If test body None at)) ∙ fold-roll-Stmt StmtTree ElseTree stmt_step else_step (Stmt-F.If test body None at)
if_tree test body (Some e) at = ap stmt_of (sym (s.rolls-If test body (Some e) at)) ∙ fold-roll-Stmt StmtTree ElseTree stmt_step else_step (Stmt-F.If test body (Some e) at)

pub switch_tree : (test : Expr) (body : Vec Stmt Global) (at : Place) → stmt_of (s.Switch test body at) ≡ tree.switch_ (tree_of test) (stmts_of body.items) at
switch_tree test body at = ap stmt_of (sym (s.rolls-Switch test body at)) ∙ fold-roll-Stmt StmtTree ElseTree stmt_step else_step (Stmt-F.Switch test body at)

pub case_tree : (value : Option Expr) (body : Box Stmt Global) (at : Place) → stmt_of (s.Case value body at) ≡ tree.case_ (option_map tree_of value) (stmt_of body.value) at
case_tree value body at = ap stmt_of (sym (s.rolls-Case value body at)) ∙ fold-roll-Stmt StmtTree ElseTree stmt_step else_step (Stmt-F.Case value body at)

pub while_tree : (test : Expr) (body : Box Stmt Global) (at : Place) → stmt_of (s.While test body at) ≡ tree.while_ (tree_of test) (stmt_of body.value) at
while_tree test body at = ap stmt_of (sym (s.rolls-While test body at)) ∙ fold-roll-Stmt StmtTree ElseTree stmt_step else_step (Stmt-F.While test body at)

pub do_tree : (body : Box Stmt Global) (test : Expr) (at : Place) → stmt_of (s.Do body test at) ≡ tree.do_ (stmt_of body.value) (tree_of test) at
do_tree body test at = ap stmt_of (sym (s.rolls-Do body test at)) ∙ fold-roll-Stmt StmtTree ElseTree stmt_step else_step (Stmt-F.Do body test at)

pub for_tree : (init : Option (Box Stmt Global)) (test : Option Expr) (step : Vec Action Global) (body : Box Stmt Global) (at : Place) →
    stmt_of (s.For init test step body at) ≡ tree.for_ (first_part (option_map (λ p. stmt_of p.value) init)) (option_map tree_of test) (map action_of step.items) (stmt_of body.value) at
for_tree None test step body at = ap stmt_of (sym (s.rolls-For None test step body at)) ∙ fold-roll-Stmt StmtTree ElseTree stmt_step else_step (Stmt-F.For None test step body at)
for_tree (Some part) test step body at = ap stmt_of (sym (s.rolls-For (Some part) test step body at)) ∙ fold-roll-Stmt StmtTree ElseTree stmt_step else_step (Stmt-F.For (Some part) test step body at)

pub break_tree : (at : Place) → stmt_of (s.Break at) ≡ tree.break_ at
break_tree at = ap stmt_of (sym (s.rolls-Break at)) ∙ fold-roll-Stmt StmtTree ElseTree stmt_step else_step (Stmt-F.Break at)

pub continue_tree : (at : Place) → stmt_of (s.Continue at) ≡ tree.continue_ at
continue_tree at = ap stmt_of (sym (s.rolls-Continue at)) ∙ fold-roll-Stmt StmtTree ElseTree stmt_step else_step (Stmt-F.Continue at)

pub return_tree : (value : Option Expr) (at : Place) → stmt_of (s.Return value at) ≡ tree.return_ (option_map tree_of value) at
return_tree value at = ap stmt_of (sym (s.rolls-Return value at)) ∙ fold-roll-Stmt StmtTree ElseTree stmt_step else_step (Stmt-F.Return value at)

pub else_tree : (e : Else) → else_of e ≡ tree.else_ e.at (stmt_of e.body.value)
else_tree e = fold_out-Else StmtTree ElseTree stmt_step else_step e

-- ---- names

pub extends_same : (names : List Declared) → Extends names names
extends_same names = ([], refl)

pub extends_more : (one two three : List Declared) → Extends one two → Extends two three → Extends one three
extends_more one two three (front, e) (further, f) = (further ++ front, f ∙ ap (λ ns. further ++ ns) e ∙ sym (append_assoc further front one))

extends_objects : (os : List ObjectTree) (names : List Declared) → Extends names (with_objects os names)
extends_objects [] names = ([], refl)
extends_objects (o ∷ os) names = extends_more names _ _ (_ ∷ [], refl) (extends_objects os _)

pub extends_behind : (t : StmtTree) (names : List Declared) → Extends names (names_behind names t)
extends_behind (tree.declare os) names = extends_objects os names
extends_behind (tree.case_ value body at) names = extends_behind body names
extends_behind _ names = ([], refl)

pub extends_in_for : (init : Option (Box Stmt Global)) (names : List Declared) → Extends names (names_in_for names (first_part (option_map (λ p. stmt_of p.value) init)))
extends_in_for None names = ([], refl)
extends_in_for (Some part) names = extends_behind (stmt_of part.value) names

pub forgotten : (old new : List Declared) → Extends old new → drop (length new - length old) new ≡ old
forgotten old new (front, e) =
    let long : length new - length old ≡ length front = ap (λ ns. length ns - length old) e ∙ ap (λ n. n - length old) (length-append front old) ∙ omega arith in
    ap (λ n. drop n new) long ∙ ap (drop (length front)) e ∙ drop-append_seam front old

pub extends_longer : (old new : List Declared) → Extends old new → length old ≤ length new
extends_longer old new (front, e) =
    let long : length new ≡ length front + length old = ap length e ∙ length-append front old in
    omega arith

pub may_forget : (old new : List Declared) (start : ℕ) → Extends old new → start ≡ length old → start ≤ length new
may_forget old new start e s = let longer : length old ≤ length new = extends_longer old new e in omega arith

pub has_forgotten : (old new after : List Declared) (start : ℕ) → Extends old new → start ≡ length old → after ≡ drop (length new - start) new → after ≡ old
has_forgotten old new after start e s f = f ∙ ap (λ n. drop (length new - n) new) s ∙ forgotten old new e

pub extends_by : (old new other : List Declared) → new ≡ other → Extends old other → Extends old new
extends_by old new other e (front, f) = (front, e ∙ f)

pub names_behind_for : (names : List Declared) (init : Option (Box Stmt Global)) (test : Option Expr) (step : Vec Action Global) (body : Box Stmt Global) (at : Place) → names_behind names (stmt_of (s.For init test step body at)) ≡ names
names_behind_for names init test step body at = ap (names_behind names) (for_tree init test step body at)

pub extends_params : (ps : List ParamTree) (names : List Declared) → Extends names (with_params ps names)
extends_params [] names = ([], refl)
extends_params (p ∷ ps) names = extends_more names (with_param p names) _ (one p.named) (extends_params ps (with_param p names))
  where
    one : (b : Bool) → Extends names (if b then with_object p.object names else names)
    one true = (_ ∷ [], refl)
    one false = ([], refl)
