use Rattle.std.proofs.Common.{◌≡◌, ◌++◌, refl, sym, ap, ◌∙◌, map}
use Rattle.std.specs.Option.{option_map}
use Rattle.c_tree.specs.View.{tree_of, action_of, stmt_of, stmts_of, else_of, else_part, first_part}
use Rattle.c_meaning.specs.Checks.Statements.{names_behind, names_in_for}
use Rattle.c_meaning.specs.Checks.Recursion.{calls, optional_calls, actions_calls, statement_calls, else_calls, first_calls, statements_calls}
use Rattle.c_calls.proofs.Calling.{where_found, grown_thread, two_parts, three_parts, four_parts}
use Rattle.c_names.proofs.DeclarationsLemmas.StatementTrees.{extends_behind, extends_in_for, extends_more, extends_by, may_forget, has_forgotten, names_behind_for, if_tree, switch_tree, case_tree, while_tree, do_tree, for_tree}
use Rattle.c_calls.proofs.called.+statements.Goals as goal

pub add_block_calls-loop-stmt-preserved : goal.add_block_calls-loop-stmt-preserved
add_block_calls-loop-stmt-preserved t c = record {
  calls = grown_thread (λ ns xs. statements_calls ns (stmts_of xs)) (λ ns x. statement_calls ns (stmt_of x)) (λ ns x. names_behind ns (stmt_of x)) (λ ns x xs. refl)
      c.args.body.now c.loop-stmt.stmt-index c.stmt-item.result c.loop-stmt.names _ _ _ _ c.loop-stmt-test.true c.stmt-item.is
      c.in_ok-add_statement_calls.ensures.calls c.in_ok-add_statement_calls.ensures.names c.loop-stmt.invariant.calls;
  names = extends_more _ c.loop-stmt.names _ c.loop-stmt.invariant.names (extends_by _ _ _ c.in_ok-add_statement_calls.ensures.names (extends_behind (stmt_of c.stmt-item.result) c.loop-stmt.names));
}

pub add_inner_calls-forget-requires : goal.add_inner_calls-forget-requires
add_inner_calls-forget-requires t c = may_forget _ _ _ (extends_by _ _ _ c.in_ok-add_statement_calls.ensures.names (extends_behind (stmt_of c.args.stmt.now) c.args.names.now)) c.len-start.ensures

pub add_inner_calls-returns-clause-names : goal.add_inner_calls-returns-clause-names
add_inner_calls-returns-clause-names t c = has_forgotten _ _ _ _ (extends_by _ _ _ c.in_ok-add_statement_calls.ensures.names (extends_behind (stmt_of c.args.stmt.now) c.args.names.now)) c.len-start.ensures c.forget.ensures

pub add_statement_calls-returns-in_ok-add_inner_calls-in-If-clause-calls : goal.add_statement_calls-returns-in_ok-add_inner_calls-in-If-clause-calls
add_statement_calls-returns-in_ok-add_inner_calls-in-If-clause-calls t c =
    let names = c.args.names.now in
    let branch = else_part (option_map else_of c.in-If.no) in
    where_found c.add_else_calls.result c.add_else_calls.ensures.calls (λ found.
    three_parts _ _ _ _ (calls names (tree_of c.in-If.test)) (statement_calls names (stmt_of c.in-If.yes.value)) (else_calls names branch) _
    (ap (λ s. statement_calls names (stmt_of s)) c.in-If.is ∙ ap (statement_calls names) (if_tree c.in-If.test c.in-If.yes c.in-If.no c.in-If.at))
    c.in_ok-add_calls-in-If.ensures
    (c.in_ok-add_inner_calls-in-If.ensures.calls ∙ ap (λ s. c.add_calls.new.calls.items ++ statement_calls names (stmt_of s)) c.deref-in-If.ensures)
    (found ∙ ap (λ ns. c.add_inner_calls.new.calls.items ++ else_calls ns branch) c.in_ok-add_inner_calls-in-If.ensures.names))

pub add_statement_calls-returns-in_ok-add_calls-in-Switch-clause-calls : goal.add_statement_calls-returns-in_ok-add_calls-in-Switch-clause-calls
add_statement_calls-returns-in_ok-add_calls-in-Switch-clause-calls t c =
    let names = c.args.names.now in
    where_found c.add_inner_block_calls-in-Switch.result c.add_inner_block_calls-in-Switch.ensures.calls (λ found.
    two_parts _ _ _ (calls names (tree_of c.in-Switch.test)) (statements_calls names (stmts_of c.in-Switch.body.items)) _
    (ap (λ s. statement_calls names (stmt_of s)) c.in-Switch.is ∙ ap (statement_calls names) (switch_tree c.in-Switch.test c.in-Switch.body c.in-Switch.at))
    c.in_ok-add_calls-in-Switch.ensures
    (found ∙ ap (λ xs. c.add_calls-in-Switch.new.calls.items ++ statements_calls names (stmts_of xs)) c.deref-in-Switch.ensures.value))

pub add_statement_calls-returns-in_ok-add_optional_calls-in-Case-clause-calls : goal.add_statement_calls-returns-in_ok-add_optional_calls-in-Case-clause-calls
add_statement_calls-returns-in_ok-add_optional_calls-in-Case-clause-calls t c =
    let names = c.args.names.now in
    where_found c.add_statement_calls.result c.add_statement_calls.ensures.calls (λ found.
    two_parts _ _ _ (optional_calls names (option_map tree_of c.in-Case.value)) (statement_calls names (stmt_of c.in-Case.body.value)) _
    (ap (λ s. statement_calls names (stmt_of s)) c.in-Case.is ∙ ap (statement_calls names) (case_tree c.in-Case.value c.in-Case.body c.in-Case.at))
    c.in_ok-add_optional_calls-in-Case.ensures
    (found ∙ ap (λ s. c.add_optional_calls.new.calls.items ++ statement_calls names (stmt_of s)) c.deref-in-Case.ensures))

pub add_loop_calls-returns-in_ok-add_calls-in-While-clause-calls : goal.add_loop_calls-returns-in_ok-add_calls-in-While-clause-calls
add_loop_calls-returns-in_ok-add_calls-in-While-clause-calls t c =
    let names = c.args.names.now in
    where_found c.add_inner_calls.result c.add_inner_calls.ensures.calls (λ found.
    two_parts _ _ _ (calls names (tree_of c.in-While.test)) (statement_calls names (stmt_of c.in-While.body.value)) _
    (ap (λ s. statement_calls names (stmt_of s)) c.in-While.is ∙ ap (statement_calls names) (while_tree c.in-While.test c.in-While.body c.in-While.at))
    c.in_ok-add_calls-in-While.ensures
    (found ∙ ap (λ s. c.add_calls.new.calls.items ++ statement_calls names (stmt_of s)) c.deref.ensures))

pub add_loop_calls-returns-in_ok-add_inner_calls-in-Do-clause-calls : goal.add_loop_calls-returns-in_ok-add_inner_calls-in-Do-clause-calls
add_loop_calls-returns-in_ok-add_inner_calls-in-Do-clause-calls t c =
    let names = c.args.names.now in
    where_found c.add_calls-in-Do.result c.add_calls-in-Do.ensures (λ found.
    two_parts _ _ _ (statement_calls names (stmt_of c.in-Do.body.value)) (calls names (tree_of c.in-Do.test)) _
    (ap (λ s. statement_calls names (stmt_of s)) c.in-Do.is ∙ ap (statement_calls names) (do_tree c.in-Do.body c.in-Do.test c.in-Do.at))
    (c.in_ok-add_inner_calls-in-Do.ensures.calls ∙ ap (λ s. c.args.calls.now.items ++ statement_calls names (stmt_of s)) c.deref-in-Do.ensures)
    (found ∙ ap (λ ns. c.add_inner_calls-in-Do.new.calls.items ++ calls ns (tree_of c.in-Do.test)) c.in_ok-add_inner_calls-in-Do.ensures.names))

pub add_loop_calls-forget-requires : goal.add_loop_calls-forget-requires
add_loop_calls-forget-requires t c =
    may_forget _ _ _ (extends_by _ _ _ (c.in_ok-add_inner_calls-in-For.ensures.names ∙ c.in_ok-add_first_calls-in-For.ensures.names) (extends_in_for c.in-For.init c.args.names.now)) c.len-outer.ensures

pub add_loop_calls-returns-in_ok-add_inner_calls-in-For-clause-names : goal.add_loop_calls-returns-in_ok-add_inner_calls-in-For-clause-names
add_loop_calls-returns-in_ok-add_inner_calls-in-For-clause-names t c =
    has_forgotten _ _ _ _ (extends_by _ _ _ (c.in_ok-add_inner_calls-in-For.ensures.names ∙ c.in_ok-add_first_calls-in-For.ensures.names) (extends_in_for c.in-For.init c.args.names.now)) c.len-outer.ensures c.forget.ensures
    ∙ sym (names_behind_for c.args.names.now c.in-For.init c.in-For.test c.in-For.step c.in-For.body c.in-For.at)
    ∙ ap (λ s. names_behind c.args.names.now (stmt_of s)) (sym c.in-For.is)

pub add_loop_calls-returns-in_ok-add_inner_calls-in-For-clause-calls : goal.add_loop_calls-returns-in_ok-add_inner_calls-in-For-clause-calls
add_loop_calls-returns-in_ok-add_inner_calls-in-For-clause-calls t c =
    let names = c.args.names.now in
    let init = first_part (option_map (λ p. stmt_of p.value) c.in-For.init) in
    let inside = names_in_for names init in
    let now = c.add_first_calls.new.names in
    let same : now ≡ inside = c.in_ok-add_first_calls-in-For.ensures.names in
    four_parts _ _ _ _ _ (first_calls names init) (optional_calls inside (option_map tree_of c.in-For.test)) (actions_calls inside (map action_of c.in-For.step.items)) (statement_calls inside (stmt_of c.in-For.body.value)) _
    (ap (λ s. statement_calls names (stmt_of s)) c.in-For.is ∙ ap (statement_calls names) (for_tree c.in-For.init c.in-For.test c.in-For.step c.in-For.body c.in-For.at))
    c.in_ok-add_first_calls-in-For.ensures.calls
    (c.in_ok-add_optional_calls-in-For.ensures ∙ ap (λ ns. c.add_first_calls.new.calls.items ++ optional_calls ns (option_map tree_of c.in-For.test)) same)
    (c.in_ok-add_actions_calls-in-For.ensures
    ∙ ap (λ ns. c.add_optional_calls.new.calls.items ++ actions_calls ns (map action_of c.deref-in-For.result.now)) same
    ∙ ap (λ xs. c.add_optional_calls.new.calls.items ++ actions_calls inside (map action_of xs)) c.deref-in-For.ensures.value)
    (c.in_ok-add_inner_calls-in-For.ensures.calls
    ∙ ap (λ ns. c.add_actions_calls.new.calls.items ++ statement_calls ns (stmt_of c.deref-in-For-2.result.now)) same
    ∙ ap (λ s. c.add_actions_calls.new.calls.items ++ statement_calls inside (stmt_of s)) c.deref-in-For-2.ensures)
