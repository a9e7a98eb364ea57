use Rattle.std.proofs.Common.{◌≡◌, true, [], Option, refl, sym, ap, ◌∙◌, length}
use Rattle.std.proofs.lemmas.Result.{IfOk-weaker}
use Rattle.std.specs.Option.{option_map}
use Rattle.hls_base.specs.declared.refusal.Refusal.{Refusal}
use Rattle.c_tree.specs.declared.statement.Stmt.{Stmt}
use Rattle.c_tree.specs.Tree.{StmtTrees}
use Rattle.c_value.specs.Values.{promoted}
use Rattle.c_meaning.specs.Checks.Names.{kind_of}
use Rattle.c_tree.specs.View.{tree_of, stmt_of, stmts_of, else_of, else_part}
use Rattle.c_meaning.specs.Checks.Faults.{lesser, least}
use Rattle.c_meaning.specs.Checks.Labels.{in_part, in_loop, in_switch, block_labels, repeated_faults}
use Rattle.c_meaning.specs.Checks.Expressions.{expression_faults}
use Rattle.c_meaning.specs.Checks.Statements.{statement_faults, block_faults, else_faults, names_behind}
use Rattle.c_names.specs.Labels.Written.{around_view}
use Rattle.c_names.proofs.DeclarationsLemmas.Least.{least_thread}
use Rattle.c_types.proofs.StatementFaults.{if_parts, switch_parts, while_parts, do_parts}
use Rattle.c_names.proofs.DeclarationsLemmas.StatementTrees.{extends_behind, extends_in_for, extends_more, extends_by, may_forget, has_forgotten, names_behind_for}
use Rattle.c_types.proofs.statements.+statements.Goals as goal

pub block-loop-stmt-preserved : goal.block-loop-stmt-preserved
block-loop-stmt-preserved t c = record {
  faults = least_thread (λ ns xs. block_faults c.args.bodies.now (around_view c.args.around) c.args.start ns (stmts_of xs)) (λ ns x. statement_faults c.args.bodies.now (around_view c.args.around) c.args.start ns (stmt_of x)) (λ ns x. names_behind ns (stmt_of x))
      (λ ns x xs. refl) c.args.body.now c.loop-stmt.stmt-index c.stmt-item.result c.loop-stmt.names _ _ _ _ _ c.loop-stmt-test.true c.stmt-item.is c.in_ok-here.ensures.fault c.in_ok-here.ensures.names c.lesser-worst.ensures c.loop-stmt.invariant.faults;
  names = extends_more _ c.loop-stmt.names _ c.loop-stmt.invariant.names (extends_by _ _ _ c.in_ok-here.ensures.names (extends_behind (stmt_of c.stmt-item.result) c.loop-stmt.names));
}

pub inner-forget-requires : goal.inner-forget-requires
inner-forget-requires t c = may_forget _ _ _ (extends_by _ _ _ c.in_ok-fault.ensures.names (extends_behind (stmt_of c.args.stmt.now) c.args.names.now)) c.len-start.ensures

pub inner-returns-clause-names : goal.inner-returns-clause-names
inner-returns-clause-names t c = has_forgotten _ _ _ _ (extends_by _ _ _ c.in_ok-fault.ensures.names (extends_behind (stmt_of c.args.stmt.now) c.args.names.now)) c.len-start.ensures c.forget.ensures

pub statement-forget-requires : goal.statement-forget-requires
statement-forget-requires t c = may_forget _ _ _ (extends_by _ _ _ (c.in_ok-inside-in-For.ensures.names ∙ c.in_ok-first-in-For.ensures.names) (extends_in_for c.in-For.init c.args.names.now)) c.len-outer.ensures

pub statement-returns-in_ok-no-in-If-clause-fault : goal.statement-returns-in_ok-no-in-If-clause-fault
statement-returns-in_ok-no-in-If-clause-fault t c =
    let bodies = c.args.bodies.now in
    let names = c.args.names.now in
    let around = around_view c.args.around in
    let part = in_part around in
    let branch = else_part (option_map else_of c.in-If.no) in
    let tested = least (expression_faults true bodies names (tree_of c.in-If.test)) in
    let first : c.in_ok-yes-in-If.yes ≡ least (statement_faults bodies part (length names) names (stmt_of c.in-If.yes.value)) =
    c.in_ok-yes-in-If.ensures.fault
    ∙ ap (λ a. least (statement_faults bodies a (length names) names (stmt_of c.deref-in-If.result.now))) c.in_part-in-If.ensures
    ∙ ap (λ s. least (statement_faults bodies part (length names) names (stmt_of s))) c.deref-in-If.ensures in
    let second : c.in_ok-no-in-If.no ≡ least (else_faults bodies part (length names) names branch) =
    c.in_ok-no-in-If.ensures.fault
    ∙ ap (λ a. least (else_faults bodies a (length c.inner.new.names) c.inner.new.names branch)) c.in_part-in-If-2.ensures
    ∙ ap (λ ns. least (else_faults bodies part (length ns) ns branch)) c.in_ok-yes-in-If.ensures.names in
    c.lesser-in-If.ensures
    ∙ ap (λ r. lesser r c.lesser.result) c.in_ok-test-in-If.ensures
    ∙ ap (lesser tested) (c.lesser.ensures ∙ ap (λ r. lesser r c.in_ok-no-in-If.no) first ∙ ap (lesser (least (statement_faults bodies part (length names) names (stmt_of c.in-If.yes.value)))) second)
    ∙ sym (if_parts bodies around c.args.start names c.in-If.test c.in-If.yes c.in-If.no c.in-If.at)
    ∙ ap (λ s. least (statement_faults bodies around c.args.start names (stmt_of s))) (sym c.in-If.is)

pub statement-returns-in_ok-inside-in-For-clause-names : goal.statement-returns-in_ok-inside-in-For-clause-names
statement-returns-in_ok-inside-in-For-clause-names t c =
    has_forgotten _ _ _ _ (extends_by _ _ _ (c.in_ok-inside-in-For.ensures.names ∙ c.in_ok-first-in-For.ensures.names) (extends_in_for c.in-For.init c.args.names.now)) c.len-outer.ensures c.forget.ensures
    ∙ sym (names_behind_for c.args.names.now c.in-For.init c.in-For.test c.in-For.step c.in-For.body c.in-For.at)
    ∙ ap (λ s. names_behind c.args.names.now (stmt_of s)) (sym c.in-For.is)

pub statement-returns-in-Switch-clause-fault : goal.statement-returns-in-Switch-clause-fault
statement-returns-in-Switch-clause-fault t c =
    let bodies = c.args.bodies.now in
    let names = c.args.names.now in
    let around = around_view c.args.around in
    let tested = least (expression_faults true bodies names (tree_of c.in-Switch.test)) in
    let of_body : StmtTrees → Option Refusal = λ body. lesser tested (lesser (least (repeated_faults [] (block_labels (promoted (kind_of names (tree_of c.in-Switch.test))) body))) (least (block_faults bodies (in_switch around) (length names) names body))) in
    let here : Stmt → Option Refusal = λ s. least (statement_faults bodies around c.args.start names (stmt_of s)) in
    let whole = ap (λ xs. of_body (stmts_of xs)) c.deref-in-Switch.ensures.value ∙ sym (switch_parts bodies around c.args.start names c.in-Switch.test c.in-Switch.body c.in-Switch.at) ∙ ap here (sym c.in-Switch.is) in
    IfOk-weaker c.switch_fault.result _ (λ r. r ≡ here c.args.stmt.now) (λ r e. e ∙ whole) c.switch_fault.ensures.fault

pub statement-returns-in-While-clause-fault : goal.statement-returns-in-While-clause-fault
statement-returns-in-While-clause-fault t c =
    let bodies = c.args.bodies.now in
    let names = c.args.names.now in
    let around = around_view c.args.around in
    let tested = least (expression_faults true bodies names (tree_of c.in-While.test)) in
    let here : Stmt → Option Refusal = λ s. least (statement_faults bodies around c.args.start names (stmt_of s)) in
    let whole = ap (λ s. lesser tested (least (statement_faults bodies (in_loop around) (length names) names (stmt_of s)))) c.deref-in-While.ensures
    ∙ sym (while_parts bodies around c.args.start names c.in-While.test c.in-While.body c.in-While.at) ∙ ap here (sym c.in-While.is) in
    IfOk-weaker c.while_fault.result _ (λ r. r ≡ here c.args.stmt.now) (λ r e. e ∙ whole) c.while_fault.ensures.fault

pub statement-returns-in-Do-clause-fault : goal.statement-returns-in-Do-clause-fault
statement-returns-in-Do-clause-fault t c =
    let bodies = c.args.bodies.now in
    let names = c.args.names.now in
    let around = around_view c.args.around in
    let tested = least (expression_faults true bodies names (tree_of c.in-Do.test)) in
    let here : Stmt → Option Refusal = λ s. least (statement_faults bodies around c.args.start names (stmt_of s)) in
    let whole = ap (λ s. lesser (least (statement_faults bodies (in_loop around) (length names) names (stmt_of s))) tested) c.deref-in-Do.ensures
    ∙ sym (do_parts bodies around c.args.start names c.in-Do.body c.in-Do.test c.in-Do.at) ∙ ap here (sym c.in-Do.is) in
    IfOk-weaker c.do_fault.result _ (λ r. r ≡ here c.args.stmt.now) (λ r e. e ∙ whole) c.do_fault.ensures.fault
