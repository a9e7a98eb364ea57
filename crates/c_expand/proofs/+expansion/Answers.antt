use Rattle.std.specs.Prelude.{◌&&◌}
use Rattle.std.proofs.Common.{Vec, Global, ◌≡◌, ◌+◌, ℕ, Bool, true, false, Option, Some, List, map, refl, sym, ap, ◌∙◌, arith, rules}
use Rattle.std.specs.Option.{option_map}
use Rattle.std.proofs.lemmas.List.{map_push, nil_from_length}
use Rattle.hls_base.specs.declared.number.ArrayId.{ArrayId}
use Rattle.hls_base.specs.declared.number.VarId.{VarId}
use Rattle.pieces.specs.declared.resolved.expression.Argument.{Argument}
use Rattle.pieces.specs.declared.resolved.expression.CoreExpr.{CoreExpr, size-CoreExpr}
use Rattle.pieces.specs.declared.resolved.statement.CoreInit.{CoreInit}
use Rattle.pieces.specs.Resolved.Core as core
use Rattle.pieces.specs.Resolved.Core.{CoreTree, row, argument_row, CoreStmtTree, CoreElseTree, ArgumentTree, stmt_row}
use Rattle.pieces.specs.Resolved.CoreView.{core_of, core_argument_of, core_target_of, core_init_of, core_action_of, core_stmt_of, core_else_of, core_else_part, core_function_of}
use Rattle.pieces.specs.declared.resolved.statement.CoreAction.{CoreAction}
use Rattle.pieces.specs.declared.resolved.statement.CoreElse.{CoreElse}
use Rattle.pieces.specs.declared.resolved.statement.CoreStmt.{CoreStmt}
use Rattle.pieces.specs.declared.pure_expr.Pure.{Pure}
use Rattle.pieces.specs.Trees as tree
use Rattle.pieces.specs.Trees.{PureTree}
use Rattle.pieces.specs.View.{pure_of, pures_of, piece_of}
use Rattle.piece_making.specs.declared.effects.Effects.{Effects}
use Rattle.piece_making.specs.Making.{then_, State, Part, Inner}
use Rattle.piece_making.specs.Acting.{no_effects, either, acts, effects, effects_of_all, effects_of_arguments}
use Rattle.piece_making.specs.Saving.{is_logical}
use Rattle.piece_making.specs.Assigning as assigning
use Rattle.piece_making.specs.Assigning.{Change, change_of, step, assigned, apply}
use Rattle.piece_making.specs.Stocks.{stock, state_of}
use Rattle.piece_making.proofs.Exits.{through, IfOk-weaker, IfRefused-weaker}
use Rattle.piece_making.proofs.Parts.{nothing_made, made_behind, heavy_at_once, heavy_behind}
use Rattle.c_expand.specs.declared.operators.Step.{Step}
use Rattle.c_expand.specs.declared.operators.Step.TheVariants as st
use Rattle.c_expand.specs.Callees.{callee_of, call_at, given_of}
use Rattle.c_expand.specs.Chains.{link, links}
use Rattle.c_expand.specs.Expressions.{expression, operands, targeted, array_given, argument, comma_left, discarded}
use Rattle.c_expand.specs.Statements.{scalar_declared, initialised, filled, item_value, statement, statements, other_branch, tested, result_set, result_variable, action, changed, valued}
use Rattle.c_expand.specs.declared.here.Here.{Here}
use Rattle.c_expand.specs.Loops.{LoopTree, repeat_of, test_of}
use Rattle.c_expand.proofs.Leading.{begins, begins_as, given, made_as, heavy_as, as_made, as_heavy, piece_made, piece_heavy, both_hold, first_fails, second_fails, first_made, second_made, second_heavy}
use Rattle.c_expand.proofs.Enclosing.{enclosed, enclosed_heavy, nothing_enclosed, enclosed_switch, enclosed_switch_heavy}
use Rattle.c_expand.proofs.Chaining.{chain_begins, chain_turn, assign_turn, assign_heavy, chain_made, chain_heavy, chain_heavy_first, comma_is, joined_turn, joined_heavy, joined_end}
use Rattle.c_expand.proofs.CoreForms.{number_core, scalar_core, element_core, call_core, unary_core, binary_core, choice_core, cast_core, assign_core, bump_core, comma_core, same_choice}
use Rattle.c_expand.proofs.Operating.{operated_heavy_saved, operated_forked, operated_forked_heavy, operated_plain, operated_plain_heavy, chosen_plain, chosen_plain_heavy, chosen_heavy_saved, chosen_heavy_first, chosen_heavy_second, chosen_forked, chosen_forked_heavy, either_is}
use Rattle.c_expand.proofs.Evaluating.{targeted_made, targeted_heavy, bump_is, choice_made, choice_heavy, choice_heavy_test}
use Rattle.c_expand.proofs.Declaring.{as_variable, as_array, as_other, without_elements}
use Rattle.c_expand.proofs.Turning.{operands_turn, operands_heavy, operands_heavy_saved, operands_end, fill_turn, fill_heavy, fill_heavy_put, fill_end, rest_of, arguments_turn, arguments_heavy, arguments_end, block_turn, block_heavy, block_end, actions_turn, actions_heavy, actions_end}
use Rattle.c_expand.proofs.Calling.{calls_more, at_path, end_is}
use Rattle.c_expand.proofs.Actions.{other_changed, no_step, some_steps}
use Rattle.c_expand.proofs.PieceTrees.{leave_piece}
use Rattle.c_expand.proofs.StatementTrees.{block_tree, declare_tree, act_tree, if_tree, else_tree, switch_tree, case_tree, while_tree, do_tree, for_tree, break_tree, continue_tree, return_tree, value_tree, array_tree}
use Rattle.c_expand.proofs.+expansion.Goals.{operators::operated-else-is_logical-via-then-is_logical+else-is_some, operators::operated-else-is_logical-via-else-is_logical}
use Rattle.c_expand.proofs.+expansion.Goals as goal
use Rattle.pieces.specs.declared.resolved.expression.Argument.TheViews.{sized-Unary, sized-Cast, sized-Binary, sized-Comma, sized-Assign}

pub operators::arm-returns-in_err-mark-clause-refused : goal.operators::arm-returns-in_err-mark-clause-refused
operators::arm-returns-in_err-mark-clause-refused t c = through _ c.in_err-mark.field-0.0 _ _ c.from_residual-in_err-mark.ensures.1 (λ y e. e) c.in_err-mark.ensures.refused (λ r h. enclosed_heavy _ _ _ _ c.begin-outer.ensures.begun (heavy_at_once _ _ _ _ h))

pub operators::arm-returns-in_err-value-clause-refused : goal.operators::arm-returns-in_err-value-clause-refused
operators::arm-returns-in_err-value-clause-refused t c = through _ c.in_err-value.field-0.0 _ _ c.from_residual-in_err-value.ensures.1 (λ y e. e) c.in_err-value.ensures.refused (λ r h. enclosed_heavy _ _ _ _ c.begin-outer.ensures.begun (heavy_behind _ _ _ _ _ _ c.in_ok-mark.ensures.made (heavy_at_once _ _ _ _ h)))

pub operators::arm-returns-in_err-set-clause-refused : goal.operators::arm-returns-in_err-set-clause-refused
operators::arm-returns-in_err-set-clause-refused t c = through _ c.in_err-set.field-0.0 _ _ c.from_residual-in_err-set.ensures.1 (λ y e. e) c.in_err-set.ensures.refused (λ r h. enclosed_heavy _ _ _ _ c.begin-outer.ensures.begun (heavy_behind _ _ _ _ _ _ c.in_ok-mark.ensures.made (heavy_behind _ _ _ _ _ _ c.in_ok-value.ensures.made h)))

pub operators::arm-returns-clause-made : goal.operators::arm-returns-clause-made
operators::arm-returns-clause-made t c = enclosed _ _ _ _ _ _ _ _ c.begin-outer.ensures.begun (made_behind _ _ _ _ _ _ _ c.in_ok-mark.ensures.made (made_behind _ _ _ _ _ _ _ c.in_ok-value.ensures.made c.in_ok-set.ensures.made))
    c.begin-outer.ensures.before c.finish.ensures.made c.finish.ensures.ended

pub operators::truth_arm-returns-in_err-mark-clause-refused : goal.operators::truth_arm-returns-in_err-mark-clause-refused
operators::truth_arm-returns-in_err-mark-clause-refused t c = through _ c.in_err-mark.field-0.0 _ _ c.from_residual-in_err-mark.ensures.1 (λ y e. e) c.in_err-mark.ensures.refused (λ r h. enclosed_heavy _ _ _ _ c.begin-outer.ensures.begun (heavy_at_once _ _ _ _ h))

pub operators::truth_arm-returns-in_err-value-clause-refused : goal.operators::truth_arm-returns-in_err-value-clause-refused
operators::truth_arm-returns-in_err-value-clause-refused t c = through _ c.in_err-value.field-0.0 _ _ c.from_residual-in_err-value.ensures.1 (λ y e. e) c.in_err-value.ensures.refused (λ r h. enclosed_heavy _ _ _ _ c.begin-outer.ensures.begun (heavy_behind _ _ _ _ _ _ c.in_ok-mark.ensures.made (heavy_at_once _ _ _ _ h)))

pub operators::truth_arm-returns-in_err-set-clause-refused : goal.operators::truth_arm-returns-in_err-set-clause-refused
operators::truth_arm-returns-in_err-set-clause-refused t c = through _ c.in_err-set.field-0.0 _ _ c.from_residual-in_err-set.ensures.1 (λ y e. e) c.in_err-set.ensures.refused (λ r h. enclosed_heavy _ _ _ _ c.begin-outer.ensures.begun (heavy_behind _ _ _ _ _ _ c.in_ok-mark.ensures.made (heavy_behind _ _ _ _ _ _ c.in_ok-value.ensures.made (piece_heavy _ _ _ _ (ap (λ (x : PureTree). tree.set c.args.own x) c.in_ok-truth.ensures) h))))

pub operators::truth_arm-returns-clause-made : goal.operators::truth_arm-returns-clause-made
operators::truth_arm-returns-clause-made t c = enclosed _ _ _ _ _ _ _ _ c.begin-outer.ensures.begun (made_behind _ _ _ _ _ _ _ c.in_ok-mark.ensures.made (made_behind _ _ _ _ _ _ _ c.in_ok-value.ensures.made (piece_made _ _ _ _ _ (ap (λ (x : PureTree). tree.set c.args.own x) c.in_ok-truth.ensures) c.in_ok-set.ensures.made)))
    c.begin-outer.ensures.before c.finish.ensures.made c.finish.ensures.ended

pub operators::operated-returns-in_err-left-clause-refused : goal.operators::operated-returns-in_err-left-clause-refused
operators::operated-returns-in_err-left-clause-refused t c = through _ c.in_err-left.field-0.0 _ _ c.from_residual-in_err-left.ensures.1 (λ y e. e) c.in_err-left.ensures.refused (λ r h. operated_heavy_saved (call_at c.args.here) c.args.operator.op c.args.operator.kind c.args.operator.at (pure_of c.args.left) _ _ (λ s. expression (callee_of c.args.here) (call_at c.args.here) (core_of c.args.right.now) s) c.effects_of-later.ensures (stock c.args.work.now) _ h)

pub operators::operated-returns-then-is_some-clause-made : goal.operators::operated-returns-then-is_some-clause-made
operators::operated-returns-then-is_some-clause-made t c = IfOk-weaker c.forked.result _ _ (λ v h. operated_forked (call_at c.args.here) c.args.operator.op c.args.operator.kind c.args.operator.at (pure_of c.args.left) _ _ (λ s. expression (callee_of c.args.here) (call_at c.args.here) (core_of c.args.right.now) s) c.effects_of-later.ensures (stock c.args.work.now) _ _ _ _ c.in_ok-left.ensures.made (both_hold _ _ (sym c.if-is_logical.ensures) (sym c.if-is_some.ensures)) h) c.forked.ensures.made

pub operators::operated-returns-then-is_some-clause-refused : goal.operators::operated-returns-then-is_some-clause-refused
operators::operated-returns-then-is_some-clause-refused t c = IfRefused-weaker c.forked.result _ _ (λ r h. operated_forked_heavy (call_at c.args.here) c.args.operator.op c.args.operator.kind c.args.operator.at (pure_of c.args.left) _ _ (λ s. expression (callee_of c.args.here) (call_at c.args.here) (core_of c.args.right.now) s) c.effects_of-later.ensures (stock c.args.work.now) _ _ _ c.in_ok-left.ensures.made (both_hold _ _ (sym c.if-is_logical.ensures) (sym c.if-is_some.ensures)) h) c.forked.ensures.refused

pub operators::operated-returns-clause-refused : goal.operators::operated-returns-clause-refused
operators::operated-returns-clause-refused t c =
    let test : (is_logical c.args.operator.op && acts c.effects_of-later.result) ≡ false = elim c.else-is_logical.branch [
      | operators::operated-else-is_logical-via-then-is_logical+else-is_some w ↦ second_fails _ _ (sym w.if-is_some.ensures)
      | operators::operated-else-is_logical-via-else-is_logical w ↦ first_fails _ _ (sym w.if-is_logical.ensures)
    ] in
    IfRefused-weaker c.operated_in_place.result _ _ (λ r h. operated_plain_heavy (call_at c.args.here) c.args.operator.op c.args.operator.kind c.args.operator.at (pure_of c.args.left) _ _ (λ s. expression (callee_of c.args.here) (call_at c.args.here) (core_of c.args.right.now) s) c.effects_of-later.ensures (stock c.args.work.now) _ _ _ c.in_ok-left.ensures.made test h) c.operated_in_place.ensures.refused

pub operators::operated_in_place-returns-in_err-right-clause-refused : goal.operators::operated_in_place-returns-in_err-right-clause-refused
operators::operated_in_place-returns-in_err-right-clause-refused t c = through _ c.in_err-right.field-0.0 _ _ c.from_residual-in_err-right.ensures.1 (λ y e. e) c.in_err-right.ensures.refused (λ r h. heavy_at_once _ _ _ _ h)

pub operators::operated_in_place-returns-clause-made : goal.operators::operated_in_place-returns-clause-made
operators::operated_in_place-returns-clause-made t c = made_behind _ _ _ _ _ _ _ c.in_ok-right.ensures.made (given _ _ _ c.in_ok-binary.ensures)

pub operators::operated-returns-clause-made : goal.operators::operated-returns-clause-made
operators::operated-returns-clause-made t c =
    let test : (is_logical c.args.operator.op && acts c.effects_of-later.result) ≡ false = elim c.else-is_logical.branch [
      | operators::operated-else-is_logical-via-then-is_logical+else-is_some w ↦ second_fails _ _ (sym w.if-is_some.ensures)
      | operators::operated-else-is_logical-via-else-is_logical w ↦ first_fails _ _ (sym w.if-is_logical.ensures)
    ] in
    IfOk-weaker c.operated_in_place.result _ _ (λ v h. operated_plain (call_at c.args.here) c.args.operator.op c.args.operator.kind c.args.operator.at (pure_of c.args.left) _ _ (λ s. expression (callee_of c.args.here) (call_at c.args.here) (core_of c.args.right.now) s) c.effects_of-later.ensures (stock c.args.work.now) _ _ _ _ c.in_ok-left.ensures.made test h) c.operated_in_place.ensures.made

pub operators::forked-returns-in_err-pieces-clause-refused : goal.operators::forked-returns-in_err-pieces-clause-refused
operators::forked-returns-in_err-pieces-clause-refused t c = through _ c.in_err-pieces.field-0.0 _ _ c.from_residual-in_err-pieces.ensures.1 (λ y e. e) c.in_err-pieces.ensures.refused (λ r h. heavy_behind _ _ _ _ _ _ c.in_ok-own.ensures (heavy_at_once _ _ _ _ h))

pub operators::forked-returns-clause-made : goal.operators::forked-returns-clause-made
operators::forked-returns-clause-made t c = IfOk-weaker c.fork_behind.result _ _ (λ v h. made_behind _ _ _ _ _ _ _ c.in_ok-own.ensures (made_behind _ _ _ _ _ _ _ c.in_ok-pieces.ensures.made h)) c.fork_behind.ensures.made

pub operators::forked-returns-clause-refused : goal.operators::forked-returns-clause-refused
operators::forked-returns-clause-refused t c = IfRefused-weaker c.fork_behind.result _ _ (λ r h. heavy_behind _ _ _ _ _ _ c.in_ok-own.ensures (heavy_behind _ _ _ _ _ _ c.in_ok-pieces.ensures.made h)) c.fork_behind.ensures.refused

pub operators::selected-returns-then-not-is_some-clause-made : goal.operators::selected-returns-then-not-is_some-clause-made
operators::selected-returns-then-not-is_some-clause-made t c = IfOk-weaker c.chosen_in_place.result _ _ (λ v h. chosen_plain (call_at c.args.here) c.args.operands.kind c.args.operands.at c.args.operands.colon (pure_of c.args.test) _ _ (λ s. expression (callee_of c.args.here) (call_at c.args.here) (core_of c.args.operands.yes.now) s) (λ s. expression (callee_of c.args.here) (call_at c.args.here) (core_of c.args.operands.no.now) s) (either_is _ _ _ _ _ c.or-later.ensures c.effects_of-second.ensures c.effects_of-third.ensures) (stock c.args.work.now) _ _ (sym c.if-not-is_some.ensures) h) c.chosen_in_place.ensures.made

pub operators::selected-returns-then-not-is_some-clause-refused : goal.operators::selected-returns-then-not-is_some-clause-refused
operators::selected-returns-then-not-is_some-clause-refused t c = IfRefused-weaker c.chosen_in_place.result _ _ (λ r h. chosen_plain_heavy (call_at c.args.here) c.args.operands.kind c.args.operands.at c.args.operands.colon (pure_of c.args.test) _ _ (λ s. expression (callee_of c.args.here) (call_at c.args.here) (core_of c.args.operands.yes.now) s) (λ s. expression (callee_of c.args.here) (call_at c.args.here) (core_of c.args.operands.no.now) s) (either_is _ _ _ _ _ c.or-later.ensures c.effects_of-second.ensures c.effects_of-third.ensures) (stock c.args.work.now) _ (sym c.if-not-is_some.ensures) h) c.chosen_in_place.ensures.refused

pub operators::chosen_in_place-returns-in_err-yes-clause-refused : goal.operators::chosen_in_place-returns-in_err-yes-clause-refused
operators::chosen_in_place-returns-in_err-yes-clause-refused t c = through _ c.in_err-yes.field-0.0 _ _ c.from_residual-in_err-yes.ensures.1 (λ y e. e) c.in_err-yes.ensures.refused (λ r h. heavy_at_once _ _ _ _ h)

pub operators::chosen_in_place-returns-in_err-no-clause-refused : goal.operators::chosen_in_place-returns-in_err-no-clause-refused
operators::chosen_in_place-returns-in_err-no-clause-refused t c = through _ c.in_err-no.field-0.0 _ _ c.from_residual-in_err-no.ensures.1 (λ y e. e) c.in_err-no.ensures.refused (λ r h. heavy_behind _ _ _ _ _ _ c.in_ok-yes.ensures.made (heavy_at_once _ _ _ _ h))

pub operators::chosen_in_place-returns-clause-made : goal.operators::chosen_in_place-returns-clause-made
operators::chosen_in_place-returns-clause-made t c = made_behind _ _ _ _ _ _ _ c.in_ok-yes.ensures.made (made_behind _ _ _ _ _ _ _ c.in_ok-no.ensures.made (given _ _ _ c.in_ok-choice.ensures))

pub operators::selected-returns-in_err-test-clause-refused : goal.operators::selected-returns-in_err-test-clause-refused
operators::selected-returns-in_err-test-clause-refused t c = through _ c.in_err-test.field-0.0 _ _ c.from_residual-in_err-test.ensures.1 (λ y e. e) c.in_err-test.ensures.refused (λ r h. chosen_heavy_saved (call_at c.args.here) c.args.operands.kind c.args.operands.at c.args.operands.colon (pure_of c.args.test) _ _ (λ s. expression (callee_of c.args.here) (call_at c.args.here) (core_of c.args.operands.yes.now) s) (λ s. expression (callee_of c.args.here) (call_at c.args.here) (core_of c.args.operands.no.now) s) (either_is _ _ _ _ _ c.or-later.ensures c.effects_of-second.ensures c.effects_of-third.ensures) (stock c.args.work.now) _ (sym c.if-not-is_some.ensures) h)

pub operators::selected-returns-in_err-yes-clause-refused : goal.operators::selected-returns-in_err-yes-clause-refused
operators::selected-returns-in_err-yes-clause-refused t c = through _ c.in_err-yes.field-0.0 _ _ c.from_residual-in_err-yes.ensures.1 (λ y e. e) c.in_err-yes.ensures.refused (λ r h. chosen_heavy_first (call_at c.args.here) c.args.operands.kind c.args.operands.at c.args.operands.colon (pure_of c.args.test) _ _ (λ s. expression (callee_of c.args.here) (call_at c.args.here) (core_of c.args.operands.yes.now) s) (λ s. expression (callee_of c.args.here) (call_at c.args.here) (core_of c.args.operands.no.now) s) (either_is _ _ _ _ _ c.or-later.ensures c.effects_of-second.ensures c.effects_of-third.ensures) (stock c.args.work.now) _ _ _ _ (sym c.if-not-is_some.ensures) c.in_ok-test.ensures.made c.in_ok-own.ensures _ h)

pub operators::selected-returns-in_err-no-clause-refused : goal.operators::selected-returns-in_err-no-clause-refused
operators::selected-returns-in_err-no-clause-refused t c = through _ c.in_err-no.field-0.0 _ _ c.from_residual-in_err-no.ensures.1 (λ y e. e) c.in_err-no.ensures.refused (λ r h. chosen_heavy_second (call_at c.args.here) c.args.operands.kind c.args.operands.at c.args.operands.colon (pure_of c.args.test) _ _ (λ s. expression (callee_of c.args.here) (call_at c.args.here) (core_of c.args.operands.yes.now) s) (λ s. expression (callee_of c.args.here) (call_at c.args.here) (core_of c.args.operands.no.now) s) (either_is _ _ _ _ _ c.or-later.ensures c.effects_of-second.ensures c.effects_of-third.ensures) (stock c.args.work.now) _ _ _ _ (sym c.if-not-is_some.ensures) c.in_ok-test.ensures.made c.in_ok-own.ensures _ _ _ c.in_ok-yes.ensures.made h)

pub operators::selected-returns-clause-made : goal.operators::selected-returns-clause-made
operators::selected-returns-clause-made t c = IfOk-weaker c.fork.result _ _ (λ v h. chosen_forked (call_at c.args.here) c.args.operands.kind c.args.operands.at c.args.operands.colon (pure_of c.args.test) _ _ (λ s. expression (callee_of c.args.here) (call_at c.args.here) (core_of c.args.operands.yes.now) s) (λ s. expression (callee_of c.args.here) (call_at c.args.here) (core_of c.args.operands.no.now) s) (either_is _ _ _ _ _ c.or-later.ensures c.effects_of-second.ensures c.effects_of-third.ensures) (stock c.args.work.now) _ _ _ _ (sym c.if-not-is_some.ensures) c.in_ok-test.ensures.made c.in_ok-own.ensures _ _ _ _ _ _ c.in_ok-yes.ensures.made c.in_ok-no.ensures.made h) c.fork.ensures.made

pub operators::selected-returns-clause-refused : goal.operators::selected-returns-clause-refused
operators::selected-returns-clause-refused t c = IfRefused-weaker c.fork.result _ _ (λ r h. chosen_forked_heavy (call_at c.args.here) c.args.operands.kind c.args.operands.at c.args.operands.colon (pure_of c.args.test) _ _ (λ s. expression (callee_of c.args.here) (call_at c.args.here) (core_of c.args.operands.yes.now) s) (λ s. expression (callee_of c.args.here) (call_at c.args.here) (core_of c.args.operands.no.now) s) (either_is _ _ _ _ _ c.or-later.ensures c.effects_of-second.ensures c.effects_of-third.ensures) (stock c.args.work.now) _ _ _ _ (sym c.if-not-is_some.ensures) c.in_ok-test.ensures.made c.in_ok-own.ensures _ _ _ _ _ c.in_ok-yes.ensures.made c.in_ok-no.ensures.made h) c.fork.ensures.refused

pub operators::chosen-returns-in_err-test-clause-refused : goal.operators::chosen-returns-in_err-test-clause-refused
operators::chosen-returns-in_err-test-clause-refused t c =
    let seen : core_of c.args.e.now ≡ core.choice (core_of c.deref.result.now) (core_of c.in-Choice.yes.value) (core_of c.in-Choice.no.value) c.in-Choice.kind c.in-Choice.at c.in-Choice.colon =
    ap core_of c.in-Choice.is ∙ (choice_core _ _ _ _ _ _ ∙ ap (λ (e : CoreExpr). core.choice (core_of e) (core_of c.in-Choice.yes.value) (core_of c.in-Choice.no.value) c.in-Choice.kind c.in-Choice.at c.in-Choice.colon) (sym c.deref.ensures)) in
    through _ c.in_err-test.field-0.0 _ _ c.from_residual-in_err-test.ensures.1 (λ y e. e) c.in_err-test.ensures.refused (λ r h. choice_heavy_test (callee_of c.args.here) (call_at c.args.here) _ _ _ _ _ _ _ (stock c.args.work.now) seen r h)

pub operators::chosen-returns-clause-made : goal.operators::chosen-returns-clause-made
operators::chosen-returns-clause-made t c =
    let seen : core_of c.args.e.now ≡ core.choice (core_of c.deref.result.now) (core_of c.deref-2.result.now) (core_of c.deref-3.result.now) c.in-Choice.kind c.in-Choice.at c.in-Choice.colon =
    ap core_of c.in-Choice.is ∙ (choice_core _ _ _ _ _ _ ∙ same_choice _ _ _ _ _ _ _ _ _ (sym c.deref.ensures) (sym c.deref-2.ensures) (sym c.deref-3.ensures)) in
    IfOk-weaker c.selected.result _ _ (λ v h. choice_made (callee_of c.args.here) (call_at c.args.here) _ _ _ _ _ _ _ (stock c.args.work.now) seen _ _ _ _ c.in_ok-test.ensures.made h) c.selected.ensures.made

pub operators::chosen-returns-clause-refused : goal.operators::chosen-returns-clause-refused
operators::chosen-returns-clause-refused t c =
    let seen : core_of c.args.e.now ≡ core.choice (core_of c.deref.result.now) (core_of c.deref-2.result.now) (core_of c.deref-3.result.now) c.in-Choice.kind c.in-Choice.at c.in-Choice.colon =
    ap core_of c.in-Choice.is ∙ (choice_core _ _ _ _ _ _ ∙ same_choice _ _ _ _ _ _ _ _ _ (sym c.deref.ensures) (sym c.deref-2.ensures) (sym c.deref-3.ensures)) in
    IfRefused-weaker c.selected.result _ _ (λ r h. choice_heavy (callee_of c.args.here) (call_at c.args.here) _ _ _ _ _ _ _ (stock c.args.work.now) seen _ _ _ c.in_ok-test.ensures.made h) c.selected.ensures.refused

pub operators::linked-returns-in_err-comma_left-in-Comma-clause-refused : goal.operators::linked-returns-in_err-comma_left-in-Comma-clause-refused
operators::linked-returns-in_err-comma_left-in-Comma-clause-refused t c = through _ c.in_err-comma_left-in-Comma.field-0.0 _ _ c.from_residual-in_err-comma_left-in-Comma.ensures.1 (λ y e. e) c.in_err-comma_left-in-Comma.ensures.refused (λ r h. as_heavy (λ (step : Step) s. link (callee_of c.args.here) (call_at c.args.here) step (pure_of c.args.part) s) _ _ _ _ c.in-Comma.is (heavy_at_once _ _ _ _ (heavy_as _ _ _ _ (ap (λ (l : Effects). comma_left (call_at c.args.here).file_variables (core_of c.in-Comma.left.now) (pure_of c.args.part) l (state_of (stock c.args.work.now))) c.effects_of-later.ensures) h)))

pub operators::linked-returns-in-Unary-clause-made : goal.operators::linked-returns-in-Unary-clause-made
operators::linked-returns-in-Unary-clause-made t c = IfOk-weaker c.unary_of.result _ _ (λ v e. as_made (λ (step : Step) s. link (callee_of c.args.here) (call_at c.args.here) step (pure_of c.args.part) s) _ _ _ _ _ c.in-Unary.is (given _ _ _ e)) c.unary_of.ensures.made

pub operators::linked-returns-in-Unary-clause-refused : goal.operators::linked-returns-in-Unary-clause-refused
operators::linked-returns-in-Unary-clause-refused t c = IfRefused-weaker c.unary_of.result _ _ (λ r h. absurd h) c.unary_of.ensures.refused

pub operators::linked-returns-in-Cast-clause-made : goal.operators::linked-returns-in-Cast-clause-made
operators::linked-returns-in-Cast-clause-made t c = IfOk-weaker c.cast_to.result _ _ (λ v e. as_made (λ (step : Step) s. link (callee_of c.args.here) (call_at c.args.here) step (pure_of c.args.part) s) _ _ _ _ _ c.in-Cast.is (given _ _ _ e)) c.cast_to.ensures.made

pub operators::linked-returns-in-Cast-clause-refused : goal.operators::linked-returns-in-Cast-clause-refused
operators::linked-returns-in-Cast-clause-refused t c = IfRefused-weaker c.cast_to.result _ _ (λ r h. absurd h) c.cast_to.ensures.refused

pub operators::linked-returns-in-Binary-clause-made : goal.operators::linked-returns-in-Binary-clause-made
operators::linked-returns-in-Binary-clause-made t c = IfOk-weaker c.operated.result _ _ (λ v h. as_made (λ (step : Step) s. link (callee_of c.args.here) (call_at c.args.here) step (pure_of c.args.part) s) _ _ _ _ _ c.in-Binary.is h) c.operated.ensures.made

pub operators::linked-returns-in-Binary-clause-refused : goal.operators::linked-returns-in-Binary-clause-refused
operators::linked-returns-in-Binary-clause-refused t c = IfRefused-weaker c.operated.result _ _ (λ r h. as_heavy (λ (step : Step) s. link (callee_of c.args.here) (call_at c.args.here) step (pure_of c.args.part) s) _ _ _ _ c.in-Binary.is h) c.operated.ensures.refused

pub operators::linked-returns-in-Assign-clause-made : goal.operators::linked-returns-in-Assign-clause-made
operators::linked-returns-in-Assign-clause-made t c = IfOk-weaker c.assigned.result _ _ (λ v h. as_made (λ (step : Step) s. link (callee_of c.args.here) (call_at c.args.here) step (pure_of c.args.part) s) _ _ _ _ _ c.in-Assign.is h) c.assigned.ensures.made

pub operators::linked-returns-in-Assign-clause-refused : goal.operators::linked-returns-in-Assign-clause-refused
operators::linked-returns-in-Assign-clause-refused t c = IfRefused-weaker c.assigned.result _ _ (λ r h. as_heavy (λ (step : Step) s. link (callee_of c.args.here) (call_at c.args.here) step (pure_of c.args.part) s) _ _ _ _ c.in-Assign.is h) c.assigned.ensures.refused

pub operators::linked-returns-in_ok-comma_left-in-Comma-clause-made : goal.operators::linked-returns-in_ok-comma_left-in-Comma-clause-made
operators::linked-returns-in_ok-comma_left-in-Comma-clause-made t c = IfOk-weaker c.expression.result _ _ (λ v h. as_made (λ (step : Step) s. link (callee_of c.args.here) (call_at c.args.here) step (pure_of c.args.part) s) _ _ _ _ _ c.in-Comma.is (made_behind _ _ _ _ _ _ _ (made_as _ _ _ _ _ (ap (λ (l : Effects). comma_left (call_at c.args.here).file_variables (core_of c.in-Comma.left.now) (pure_of c.args.part) l (state_of (stock c.args.work.now))) c.effects_of-later.ensures) c.in_ok-comma_left-in-Comma.ensures.made) h)) c.expression.ensures.made

pub operators::linked-returns-in_ok-comma_left-in-Comma-clause-refused : goal.operators::linked-returns-in_ok-comma_left-in-Comma-clause-refused
operators::linked-returns-in_ok-comma_left-in-Comma-clause-refused t c = IfRefused-weaker c.expression.result _ _ (λ r h. as_heavy (λ (step : Step) s. link (callee_of c.args.here) (call_at c.args.here) step (pure_of c.args.part) s) _ _ _ _ c.in-Comma.is (heavy_behind _ _ _ _ _ _ (made_as _ _ _ _ _ (ap (λ (l : Effects). comma_left (call_at c.args.here).file_variables (core_of c.in-Comma.left.now) (pure_of c.args.part) l (state_of (stock c.args.work.now))) c.effects_of-later.ensures) c.in_ok-comma_left-in-Comma.ensures.made) h)) c.expression.ensures.refused

pub expressions::element_of-returns-in_err-subscripts-clause-refused : goal.expressions::element_of-returns-in_err-subscripts-clause-refused
expressions::element_of-returns-in_err-subscripts-clause-refused t c = through _ c.in_err-subscripts.field-0.0 _ _ c.from_residual-in_err-subscripts.ensures.1 (λ y e. e) c.in_err-subscripts.ensures.refused (λ r h. heavy_at_once _ _ _ _ h)

pub expressions::element_of-returns-clause-made : goal.expressions::element_of-returns-clause-made
expressions::element_of-returns-clause-made t c = made_behind _ _ _ _ _ _ _ c.in_ok-subscripts.ensures.made
    (given _ _ _ (c.in_ok-element.ensures ∙ ap (λ (a : ArrayId). tree.element a (pures_of c.in_ok-subscripts.subscripts.items) c.args.kind c.args.at) c.in_ok-array.ensures))

pub expressions::assignment-returns-in_err-subscripts-clause-refused : goal.expressions::assignment-returns-in_err-subscripts-clause-refused
expressions::assignment-returns-in_err-subscripts-clause-refused t c = through _ c.in_err-subscripts.field-0.0 _ _ c.from_residual-in_err-subscripts.ensures.1 (λ y e. e) c.in_err-subscripts.ensures.refused (λ r h. targeted_heavy (callee_of c.args.here) (call_at c.args.here) c.args.target.now c.deref.result.now _ _ c.args.op c.args.at (stock c.args.work.now) c.deref.ensures.value c.effects_of-later.ensures r h)

pub expressions::assignment-returns-clause-made : goal.expressions::assignment-returns-clause-made
expressions::assignment-returns-clause-made t c = targeted_made (callee_of c.args.here) (call_at c.args.here) c.args.target.now c.deref.result.now _ _ c.args.op c.args.at (stock c.args.work.now) c.deref.ensures.value c.effects_of-later.ensures _ _ _ c.in_ok-subscripts.ensures.made
    (ap change_of c.new.ensures ∙ ap (λ (x : Vec Pure Global). assigning.change c.args.target.now.cell c.args.target.now.kind c.args.target.now.at (pures_of x.items) c.args.op c.args.at) c.into_inner-subscripts.ensures)

pub expressions::step_by_one-returns-in_err-subscripts-clause-refused : goal.expressions::step_by_one-returns-in_err-subscripts-clause-refused
expressions::step_by_one-returns-in_err-subscripts-clause-refused t c = through _ c.in_err-subscripts.field-0.0 _ _ c.from_residual-in_err-subscripts.ensures.1 (λ y e. e) c.in_err-subscripts.ensures.refused (λ r h. targeted_heavy (callee_of c.args.here) (call_at c.args.here) c.args.target.now c.deref.result.now no_effects no_effects (step c.args.up) c.args.at (stock c.args.work.now) c.deref.ensures.value refl r h)

pub expressions::step_by_one-returns-clause-made : goal.expressions::step_by_one-returns-clause-made
expressions::step_by_one-returns-clause-made t c = targeted_made (callee_of c.args.here) (call_at c.args.here) c.args.target.now c.deref.result.now no_effects no_effects (step c.args.up) c.args.at (stock c.args.work.now) c.deref.ensures.value refl _ _ _ c.in_ok-subscripts.ensures.made
    (ap change_of c.new.ensures ∙ bump_is _ _ _ _ _ c.bump.ensures.target (c.bump.ensures.subscripts ∙ c.into_inner-subscripts.ensures) c.bump.ensures.op c.bump.ensures.at)

pub expressions::operands-loop-i-init : goal.expressions::operands-loop-i-init
expressions::operands-loop-i-init t c = begins_as _ _ _ (ap (λ (xs : List Pure). operands (callee_of c.args.here) (call_at c.args.here) (row (map core_of c.args.es.now)) c.args.behind (map pure_of xs) (state_of (stock c.args.work.now))) (sym c.new-values.ensures))

pub expressions::operands-loop-i-preserved : goal.expressions::operands-loop-i-preserved
expressions::operands-loop-i-preserved t c = operands_turn (callee_of c.args.here) (call_at c.args.here) c.args.es.now c.loop-i.i c.index-es-i.result c.args.behind _ _ _ _ _ _ _ _ _ _ c.loop-i-test.true c.index-es-i.is c.in_ok-value.ensures.made c.in_ok-kept.ensures.made
    (c.or.ensures ∙ ap (λ (x : Effects). either x c.args.behind) (c.effects_of_all-rest.ensures ∙ ap (λ (es : List CoreExpr). effects_of_all (row (map core_of es))) (rest_of (c.loop-i.i + 1) c.args.es.now))) (ap (map pure_of) c.in_ok-push.ensures ∙ map_push pure_of _ _) c.loop-i.invariant

pub expressions::operands-returns-in_err-value-clause-refused : goal.expressions::operands-returns-in_err-value-clause-refused
expressions::operands-returns-in_err-value-clause-refused t c = through _ c.in_err-value.field-0.0 _ _ c.from_residual-in_err-value.ensures.1 (λ y e. e) c.in_err-value.ensures.refused (λ r h. operands_heavy (callee_of c.args.here) (call_at c.args.here) c.args.es.now c.loop-i.i c.index-es-i.result c.args.behind _ _ _ _ _ c.loop-i-test.true c.index-es-i.is c.loop-i.invariant h)

pub expressions::operands-returns-in_err-kept-clause-refused : goal.expressions::operands-returns-in_err-kept-clause-refused
expressions::operands-returns-in_err-kept-clause-refused t c = through _ c.in_err-kept.field-0.0 _ _ c.from_residual-in_err-kept.ensures.1 (λ y e. e) c.in_err-kept.ensures.refused (λ r h. operands_heavy_saved (callee_of c.args.here) (call_at c.args.here) c.args.es.now c.loop-i.i c.index-es-i.result c.args.behind _ _ _ _ _ _ _ _ c.loop-i-test.true c.index-es-i.is c.loop-i.invariant c.in_ok-value.ensures.made
    (c.or.ensures ∙ ap (λ (x : Effects). either x c.args.behind) (c.effects_of_all-rest.ensures ∙ ap (λ (es : List CoreExpr). effects_of_all (row (map core_of es))) (rest_of (c.loop-i.i + 1) c.args.es.now))) h)

pub expressions::operands-returns-clause-made : goal.expressions::operands-returns-clause-made
expressions::operands-returns-clause-made t c = operands_end (callee_of c.args.here) (call_at c.args.here) c.args.es.now c.loop-i.i c.args.behind _ _ _ _ c.loop-i-test.false c.loop-i.invariant

pub expressions::joined-loop-step-init : goal.expressions::joined-loop-step-init
expressions::joined-loop-step-init t c = begins _ _

pub expressions::joined-loop-step-preserved : goal.expressions::joined-loop-step-preserved
expressions::joined-loop-step-preserved t c = joined_turn (callee_of c.args.here) (call_at c.args.here) _ _ c.in-Some.step _ _ _ _ _ _ c.in-Some.ensures.items c.in_ok-part.ensures.made c.loop-step.invariant

pub expressions::joined-returns-in_err-part-clause-refused : goal.expressions::joined-returns-in_err-part-clause-refused
expressions::joined-returns-in_err-part-clause-refused t c = through _ c.in_err-part.field-0.0 _ _ c.from_residual-in_err-part.ensures.1 (λ y e. e) c.in_err-part.ensures.refused (λ r h. joined_heavy (callee_of c.args.here) (call_at c.args.here) c.pop.new.self.items c.loop-step.steps.items c.in-Some.step (pure_of c.loop-step.part) (stock c.args.work.now) (stock c.loop-step.work) r (links (callee_of c.args.here) (call_at c.args.here) c.args.steps.items (pure_of c.args.first) (state_of (stock c.args.work.now))) c.in-Some.ensures.items c.loop-step.invariant h)

pub expressions::joined-returns-clause-made : goal.expressions::joined-returns-clause-made
expressions::joined-returns-clause-made t c = joined_end (callee_of c.args.here) (call_at c.args.here) _ _ _ _ _ (nil_from_length _ (sym c.loop-step.steps.ok.0 ∙ c.in_default.ensures.cases.0)) c.loop-step.invariant

pub expressions::innermost-returns-in-Number-clause-made : goal.expressions::innermost-returns-in-Number-clause-made
expressions::innermost-returns-in-Number-clause-made t c =
    IfOk-weaker c.number.result _ _ (λ v h. as_made (λ (e : CoreTree) s. expression (callee_of c.args.here) (call_at c.args.here) e s) _ _ _ _ _ (ap core_of c.in-Number.is ∙ number_core _ _) (given _ _ _ h)) c.number.ensures.made

pub expressions::innermost-returns-in-Scalar-clause-made : goal.expressions::innermost-returns-in-Scalar-clause-made
expressions::innermost-returns-in-Scalar-clause-made t c =
    IfOk-weaker c.scalar_at.result _ _ (λ v h. as_made (λ (e : CoreTree) s. expression (callee_of c.args.here) (call_at c.args.here) e s) _ _ _ _ _ (ap core_of c.in-Scalar.is ∙ scalar_core _ _ _) (given _ _ _ h)) c.scalar_at.ensures.made

pub expressions::innermost-returns-in-Scalar-clause-refused : goal.expressions::innermost-returns-in-Scalar-clause-refused
expressions::innermost-returns-in-Scalar-clause-refused t c = IfRefused-weaker c.scalar_at.result _ _ (λ r h. absurd h) c.scalar_at.ensures.refused

pub expressions::innermost-returns-in-Element-clause-made : goal.expressions::innermost-returns-in-Element-clause-made
expressions::innermost-returns-in-Element-clause-made t c =
    let seen : core_of c.args.e.now ≡ core.element c.in-Element.array (row (map core_of c.deref.result.now)) c.in-Element.kind c.in-Element.at =
    ap core_of c.in-Element.is ∙ (element_core _ _ _ _ ∙ ap (λ (es : List CoreExpr). core.element c.in-Element.array (row (map core_of es)) c.in-Element.kind c.in-Element.at) (sym c.deref.ensures.value)) in
    IfOk-weaker c.element_of.result _ _ (λ v h. as_made (λ (e : CoreTree) s. expression (callee_of c.args.here) (call_at c.args.here) e s) _ _ _ _ _ seen h) c.element_of.ensures.made

pub expressions::innermost-returns-in-Element-clause-refused : goal.expressions::innermost-returns-in-Element-clause-refused
expressions::innermost-returns-in-Element-clause-refused t c =
    let seen : core_of c.args.e.now ≡ core.element c.in-Element.array (row (map core_of c.deref.result.now)) c.in-Element.kind c.in-Element.at =
    ap core_of c.in-Element.is ∙ (element_core _ _ _ _ ∙ ap (λ (es : List CoreExpr). core.element c.in-Element.array (row (map core_of es)) c.in-Element.kind c.in-Element.at) (sym c.deref.ensures.value)) in
    IfRefused-weaker c.element_of.result _ _ (λ r h. as_heavy (λ (e : CoreTree) s. expression (callee_of c.args.here) (call_at c.args.here) e s) _ _ _ _ seen h) c.element_of.ensures.refused

pub expressions::innermost-returns-in_err-value-in-Call-clause-refused : goal.expressions::innermost-returns-in_err-value-in-Call-clause-refused
expressions::innermost-returns-in_err-value-in-Call-clause-refused t c =
    let seen : core_of c.args.e.now ≡ core.call c.in-Call.function (argument_row (map core_argument_of c.deref-in-Call.result.now)) c.in-Call.kind c.in-Call.at =
    ap core_of c.in-Call.is ∙ (call_core _ _ _ _ ∙ ap (λ (xs : List Argument). core.call c.in-Call.function (argument_row (map core_argument_of xs)) c.in-Call.kind c.in-Call.at) (sym c.deref-in-Call.ensures.value)) in
    through _ c.in_err-value-in-Call.field-0.0 _ _ c.from_residual-in_err-value-in-Call.ensures.1 (λ y e. e) c.in_err-value-in-Call.ensures.refused (λ r h. as_heavy (λ (e : CoreTree) s. expression (callee_of c.args.here) (call_at c.args.here) e s) _ _ _ _ seen (heavy_at_once _ _ _ _ h))

pub expressions::innermost-returns-in_ok-value_or_zero-in-Call-clause-made : goal.expressions::innermost-returns-in_ok-value_or_zero-in-Call-clause-made
expressions::innermost-returns-in_ok-value_or_zero-in-Call-clause-made t c =
    let seen : core_of c.args.e.now ≡ core.call c.in-Call.function (argument_row (map core_argument_of c.deref-in-Call.result.now)) c.in-Call.kind c.in-Call.at =
    ap core_of c.in-Call.is ∙ (call_core _ _ _ _ ∙ ap (λ (xs : List Argument). core.call c.in-Call.function (argument_row (map core_argument_of xs)) c.in-Call.kind c.in-Call.at) (sym c.deref-in-Call.ensures.value)) in
    as_made (λ (e : CoreTree) s. expression (callee_of c.args.here) (call_at c.args.here) e s) _ _ _ _ _ seen (made_behind _ _ _ _ _ _ _ c.in_ok-value-in-Call.ensures.made (given _ _ _ c.in_ok-value_or_zero-in-Call.ensures))

pub expressions::innermost-returns-in-Choice-clause-made : goal.expressions::innermost-returns-in-Choice-clause-made
expressions::innermost-returns-in-Choice-clause-made t c = c.chosen.ensures.made

pub expressions::innermost-returns-in-Choice-clause-refused : goal.expressions::innermost-returns-in-Choice-clause-refused
expressions::innermost-returns-in-Choice-clause-refused t c = c.chosen.ensures.refused

pub expressions::innermost-returns-in_err-change-in-Bump-clause-refused : goal.expressions::innermost-returns-in_err-change-in-Bump-clause-refused
expressions::innermost-returns-in_err-change-in-Bump-clause-refused t c = through _ c.in_err-change-in-Bump.field-0.0 _ _ c.from_residual-in_err-change-in-Bump.ensures.1 (λ y e. e) c.in_err-change-in-Bump.ensures.refused (λ r h. as_heavy (λ (e : CoreTree) s. expression (callee_of c.args.here) (call_at c.args.here) e s) _ _ _ _ (ap core_of c.in-Bump.is ∙ bump_core _ _ _ _) (heavy_at_once _ _ _ _ h))

pub expressions::innermost-returns-in_ok-change-in-Bump-clause-made : goal.expressions::innermost-returns-in_ok-change-in-Bump-clause-made
expressions::innermost-returns-in_ok-change-in-Bump-clause-made t c = IfOk-weaker c.bump.result _ _ (λ v h. as_made (λ (e : CoreTree) s. expression (callee_of c.args.here) (call_at c.args.here) e s) _ _ _ _ _ (ap core_of c.in-Bump.is ∙ bump_core _ _ _ _) (made_behind _ _ _ _ _ _ _ c.in_ok-change-in-Bump.ensures.made h)) c.bump.ensures.made

pub expressions::innermost-returns-in_ok-change-in-Bump-clause-refused : goal.expressions::innermost-returns-in_ok-change-in-Bump-clause-refused
expressions::innermost-returns-in_ok-change-in-Bump-clause-refused t c = IfRefused-weaker c.bump.result _ _ (λ r h. as_heavy (λ (e : CoreTree) s. expression (callee_of c.args.here) (call_at c.args.here) e s) _ _ _ _ (ap core_of c.in-Bump.is ∙ bump_core _ _ _ _) (heavy_behind _ _ _ _ _ _ c.in_ok-change-in-Bump.ensures.made h)) c.bump.ensures.refused

pub expressions::expression-chain-init : goal.expressions::expression-chain-init
expressions::expression-chain-init t c =
    record {
      no_deeper = omega arith;
      leads = chain_begins (callee_of c.args.here) (call_at c.args.here) _ _ _ c.new-steps.ensures;
    }

pub expressions::expression-chain-preserved-in-Unary : goal.expressions::expression-chain-preserved-in-Unary
expressions::expression-chain-preserved-in-Unary t c =
    let seen : core_of c.chain.part.now ≡ core.unary c.in-Unary.op (core_of c.deref-part.result.now) c.in-Unary.kind c.in-Unary.at =
    ap core_of c.in-Unary.is ∙ (unary_core _ _ _ _ ∙ ap (λ (e : CoreExpr). core.unary c.in-Unary.op (core_of e) c.in-Unary.kind c.in-Unary.at) (sym c.deref-part.ensures)) in
    record {
      no_deeper = omega (arith, c.chain.invariant.no_deeper, ap size-CoreExpr c.deref-part.ensures, ap size-CoreExpr c.in-Unary.is, sized-Unary c.in-Unary.op c.in-Unary.arg c.in-Unary.kind c.in-Unary.at);
      leads = chain_turn (callee_of c.args.here) (call_at c.args.here) _ _ (st.Unary c.in-Unary.op c.in-Unary.kind c.in-Unary.at) _ _ _ _ _ (ap (λ (e : CoreTree). expression (callee_of c.args.here) (call_at c.args.here) e (state_of (stock c.chain.work))) seen) c.in_ok-unary-in-Unary.ensures c.chain.invariant.leads;
    }

pub expressions::expression-chain-preserved-in-Cast : goal.expressions::expression-chain-preserved-in-Cast
expressions::expression-chain-preserved-in-Cast t c =
    let seen : core_of c.chain.part.now ≡ core.cast c.in-Cast.to (core_of c.deref-part-in-Cast.result.now) =
    ap core_of c.in-Cast.is ∙ (cast_core _ _ ∙ ap (λ (e : CoreExpr). core.cast c.in-Cast.to (core_of e)) (sym c.deref-part-in-Cast.ensures)) in
    record {
      no_deeper = omega (arith, c.chain.invariant.no_deeper, ap size-CoreExpr c.deref-part-in-Cast.ensures, ap size-CoreExpr c.in-Cast.is, sized-Cast c.in-Cast.to c.in-Cast.arg);
      leads = chain_turn (callee_of c.args.here) (call_at c.args.here) _ _ (st.Cast c.in-Cast.to) _ _ _ _ _ (ap (λ (e : CoreTree). expression (callee_of c.args.here) (call_at c.args.here) e (state_of (stock c.chain.work))) seen) c.in_ok-cast-in-Cast.ensures c.chain.invariant.leads;
    }

pub expressions::expression-chain-preserved-in-Binary : goal.expressions::expression-chain-preserved-in-Binary
expressions::expression-chain-preserved-in-Binary t c =
    let seen : core_of c.chain.part.now ≡ core.binary c.in-Binary.op (core_of c.deref-part-in-Binary.result.now) (core_of c.deref.result.now) c.in-Binary.kind c.in-Binary.at =
    ap core_of c.in-Binary.is ∙ (binary_core _ _ _ _ _ ∙ (ap (λ (e : CoreExpr). core.binary c.in-Binary.op (core_of e) (core_of c.in-Binary.right.value) c.in-Binary.kind c.in-Binary.at) (sym c.deref-part-in-Binary.ensures)
    ∙ ap (λ (e : CoreExpr). core.binary c.in-Binary.op (core_of c.deref-part-in-Binary.result.now) (core_of e) c.in-Binary.kind c.in-Binary.at) (sym c.deref.ensures))) in
    record {
      no_deeper = omega (arith, c.chain.invariant.no_deeper, ap size-CoreExpr c.deref-part-in-Binary.ensures, ap size-CoreExpr c.in-Binary.is, sized-Binary c.in-Binary.op c.in-Binary.left c.in-Binary.right c.in-Binary.kind c.in-Binary.at);
      leads = chain_turn (callee_of c.args.here) (call_at c.args.here) _ _ (st.Binary (record { op = c.in-Binary.op; kind = c.in-Binary.kind; at = c.in-Binary.at }) c.deref.result) _ _ _ _ _ (ap (λ (e : CoreTree). expression (callee_of c.args.here) (call_at c.args.here) e (state_of (stock c.chain.work))) seen) c.in_ok-binary-in-Binary.ensures c.chain.invariant.leads;
    }

pub expressions::expression-chain-preserved : goal.expressions::expression-chain-preserved
expressions::expression-chain-preserved t c =
    let seen : core_of c.chain.part.now ≡ core.comma (core_of c.deref-part-in-Comma.result.now) (core_of c.deref-in-Comma-2.result.now) =
    ap core_of c.in-Comma.is ∙ (comma_core _ _ ∙ (ap (λ (e : CoreExpr). core.comma (core_of e) (core_of c.in-Comma.right.value)) (sym c.deref-part-in-Comma.ensures)
    ∙ ap (λ (e : CoreExpr). core.comma (core_of c.deref-part-in-Comma.result.now) (core_of e)) (sym c.deref-in-Comma-2.ensures))) in
    record {
      no_deeper = omega (arith, c.chain.invariant.no_deeper, ap size-CoreExpr c.deref-part-in-Comma.ensures, ap size-CoreExpr c.in-Comma.is, sized-Comma c.in-Comma.left c.in-Comma.right);
      leads = chain_turn (callee_of c.args.here) (call_at c.args.here) _ _ (st.Comma c.deref-in-Comma.result c.deref-in-Comma-2.result) _ _ _ _ _
          ((ap (λ (e : CoreTree). expression (callee_of c.args.here) (call_at c.args.here) e (state_of (stock c.chain.work))) seen) ∙ comma_is (callee_of c.args.here) (call_at c.args.here) (core_of c.deref-part-in-Comma.result.now) (core_of c.deref-in-Comma-2.result.now) (core_of c.deref-in-Comma.result.now) (state_of (stock c.chain.work)) (ap core_of (c.deref-in-Comma.ensures ∙ sym c.deref-part-in-Comma.ensures)))
          c.in_ok-comma-in-Comma.ensures c.chain.invariant.leads;
    }

pub expressions::expression-returns-in_err-change-in-Assign-clause-refused : goal.expressions::expression-returns-in_err-change-in-Assign-clause-refused
expressions::expression-returns-in_err-change-in-Assign-clause-refused t c = through _ c.in_err-change-in-Assign.field-0.0 _ _ c.from_residual-in_err-change-in-Assign.ensures.1 (λ y e. e) c.in_err-change-in-Assign.ensures.refused (λ r h. assign_heavy (callee_of c.args.here) (call_at c.args.here) _ (targeted (callee_of c.args.here) (call_at c.args.here) (core_target_of c.in-Assign.target) (effects (core_of c.in-Assign.value.value)) c.in-Assign.op c.in-Assign.at (state_of (stock c.chain.work))) (λ (g : Change) s. then_ (expression (callee_of c.args.here) (call_at c.args.here) (core_of c.in-Assign.value.value) s) (λ by s1. assigned (call_at c.args.here) g by s1)) _ _ _ _ _
    (ap (λ (e : CoreTree). expression (callee_of c.args.here) (call_at c.args.here) e (state_of (stock c.chain.work))) (ap core_of c.in-Assign.is ∙ assign_core _ _ _ _)) c.chain.invariant.leads (heavy_as _ _ _ _ (ap (λ (e : CoreExpr). targeted (callee_of c.args.here) (call_at c.args.here) (core_target_of c.in-Assign.target) (effects (core_of e)) c.in-Assign.op c.in-Assign.at (state_of (stock c.chain.work))) c.deref-in-Assign.ensures) h))

pub expressions::expression-chain-preserved-in-Assign : goal.expressions::expression-chain-preserved-in-Assign
expressions::expression-chain-preserved-in-Assign t c =
    let change = c.in_ok-change-in-Assign.change in
    let after = state_of (stock c.assignment.new.work) in
    let turned = assign_turn (callee_of c.args.here) (call_at c.args.here) _ (targeted (callee_of c.args.here) (call_at c.args.here) (core_target_of c.in-Assign.target) (effects (core_of c.in-Assign.value.value)) c.in-Assign.op c.in-Assign.at (state_of (stock c.chain.work))) (λ (g : Change) s. then_ (expression (callee_of c.args.here) (call_at c.args.here) (core_of c.in-Assign.value.value) s) (λ by s1. assigned (call_at c.args.here) g by s1)) _ (change_of change) _ _ _ _ (ap (λ (e : CoreTree). expression (callee_of c.args.here) (call_at c.args.here) e (state_of (stock c.chain.work))) (ap core_of c.in-Assign.is ∙ assign_core _ _ _ _)) (made_as _ _ _ _ _ (ap (λ (e : CoreExpr). targeted (callee_of c.args.here) (call_at c.args.here) (core_target_of c.in-Assign.target) (effects (core_of e)) c.in-Assign.op c.in-Assign.at (state_of (stock c.chain.work))) c.deref-in-Assign.ensures) c.in_ok-change-in-Assign.ensures.made) c.chain.invariant.leads in
    record {
      no_deeper = omega (arith, c.chain.invariant.no_deeper, ap size-CoreExpr c.deref-part-in-Assign.ensures, ap size-CoreExpr c.in-Assign.is, sized-Assign c.in-Assign.target c.in-Assign.op c.in-Assign.value c.in-Assign.at);
      leads = chain_turn (callee_of c.args.here) (call_at c.args.here) _ _ (st.Assign change) _ _ _ _ _
          (ap (λ (e : CoreExpr). then_ (expression (callee_of c.args.here) (call_at c.args.here) (core_of e) after) (λ by s1. assigned (call_at c.args.here) (change_of change) by s1)) (sym c.deref-part-in-Assign.ensures))
          c.in_ok-assign-in-Assign.ensures turned;
    }

pub expressions::expression-returns-in_err-first-in_default : goal.expressions::expression-returns-in_err-first-in_default
expressions::expression-returns-in_err-first-in_default t c =
    record {
      made = search rules;
      refused = through _ c.in_err-first-in_default.field-0.0 _ _ c.from_residual-in_err-first-in_default.ensures.1 (λ y e. e) c.in_err-first-in_default.ensures.refused (λ r h. chain_heavy_first (callee_of c.args.here) (call_at c.args.here) _ _ _ _ _ _ c.chain.invariant.leads h);
    }

pub expressions::expression-returns-in_default : goal.expressions::expression-returns-in_default
expressions::expression-returns-in_default t c =
    let gone = ap (λ (xs : Vec Step Global). links (callee_of c.args.here) (call_at c.args.here) xs.items (pure_of c.in_ok-first-in_default.first) (state_of (stock c.innermost.new.work))) c.into_inner.ensures in
    record {
      made = IfOk-weaker c.joined.result _ _ (λ v h. chain_made (callee_of c.args.here) (call_at c.args.here) _ _ _ _ _ _ _ _ _ c.chain.invariant.leads c.in_ok-first-in_default.ensures.made (made_as _ _ _ _ _ gone h)) c.joined.ensures.made;
      refused = IfRefused-weaker c.joined.result _ _ (λ r h. chain_heavy (callee_of c.args.here) (call_at c.args.here) _ _ _ _ _ _ _ _ c.chain.invariant.leads c.in_ok-first-in_default.ensures.made (heavy_as _ _ _ _ gone h)) c.joined.ensures.refused;
    }

pub declarations::declare-returns-in-Variable-clause-made : goal.declarations::declare-returns-in-Variable-clause-made
declarations::declare-returns-in-Variable-clause-made t c = IfOk-weaker c.declare_scalar.result _ _ (λ v h. made_as _ _ _ _ _ (sym (as_variable (callee_of c.args.here) (call_at c.args.here) c.args.object (core_init_of c.args.init.now) (state_of (stock c.args.work.now)) _ (c.in_ok-variable.ensures ∙ ap Some c.in-Variable.is))) h) c.declare_scalar.ensures.made

pub declarations::declare-returns-in-Variable-clause-refused : goal.declarations::declare-returns-in-Variable-clause-refused
declarations::declare-returns-in-Variable-clause-refused t c = IfRefused-weaker c.declare_scalar.result _ _ (λ r h. heavy_as _ _ _ _ (sym (as_variable (callee_of c.args.here) (call_at c.args.here) c.args.object (core_init_of c.args.init.now) (state_of (stock c.args.work.now)) _ (c.in_ok-variable.ensures ∙ ap Some c.in-Variable.is))) h) c.declare_scalar.ensures.refused

pub declarations::declare-returns-in_err-array-in-Local-clause-refused : goal.declarations::declare-returns-in_err-array-in-Local-clause-refused
declarations::declare-returns-in_err-array-in-Local-clause-refused t c = through _ c.in_err-array-in-Local.field-0.0 _ _ c.from_residual-in_err-array-in-Local.ensures.1 (λ y e. e) c.in_err-array-in-Local.ensures.refused (λ r h. heavy_as _ _ _ _ (sym (as_array (callee_of c.args.here) (call_at c.args.here) c.args.object (core_init_of c.args.init.now) (state_of (stock c.args.work.now)) _ _ (c.in_ok-variable.ensures ∙ ap Some c.in-Local.is) c.in_ok-object-in-Local.ensures)) (heavy_at_once _ _ _ _ h))

pub declarations::declare-returns-in_ok-array-in-Local-clause-made : goal.declarations::declare-returns-in_ok-array-in-Local-clause-made
declarations::declare-returns-in_ok-array-in-Local-clause-made t c = IfOk-weaker c.initialise.result _ _ (λ v h. made_as _ _ _ _ _ (sym (as_array (callee_of c.args.here) (call_at c.args.here) c.args.object (core_init_of c.args.init.now) (state_of (stock c.args.work.now)) _ _ (c.in_ok-variable.ensures ∙ ap Some c.in-Local.is) c.in_ok-object-in-Local.ensures)) (made_behind _ _ _ _ _ _ _ c.in_ok-array-in-Local.ensures.made (made_behind _ _ _ _ _ _ _ c.note_array.ensures (made_as _ _ _ _ _ (ap (λ (ls : List ℕ). initialised (callee_of c.args.here) (call_at c.args.here) c.in_ok-array-in-Local.array ls (core_init_of c.args.init.now) (state_of (stock c.note_array.new.self))) c.deref.ensures.value) h)))) c.initialise.ensures.made

pub declarations::declare-returns-in_ok-array-in-Local-clause-refused : goal.declarations::declare-returns-in_ok-array-in-Local-clause-refused
declarations::declare-returns-in_ok-array-in-Local-clause-refused t c = IfRefused-weaker c.initialise.result _ _ (λ r h. heavy_as _ _ _ _ (sym (as_array (callee_of c.args.here) (call_at c.args.here) c.args.object (core_init_of c.args.init.now) (state_of (stock c.args.work.now)) _ _ (c.in_ok-variable.ensures ∙ ap Some c.in-Local.is) c.in_ok-object-in-Local.ensures)) (heavy_behind _ _ _ _ _ _ c.in_ok-array-in-Local.ensures.made (heavy_behind _ _ _ _ _ _ c.note_array.ensures (heavy_as _ _ _ _ (ap (λ (ls : List ℕ). initialised (callee_of c.args.here) (call_at c.args.here) c.in_ok-array-in-Local.array ls (core_init_of c.args.init.now) (state_of (stock c.note_array.new.self))) c.deref.ensures.value) h)))) c.initialise.ensures.refused

pub declarations::declare-returns-in-Array-clause-made : goal.declarations::declare-returns-in-Array-clause-made
declarations::declare-returns-in-Array-clause-made t c = made_as _ _ _ _ _ (sym (as_other (callee_of c.args.here) (call_at c.args.here) c.args.object (core_init_of c.args.init.now) (state_of (stock c.args.work.now)) _ c.in_ok-variable.ensures c.in-Array.is)) (nothing_made _ _)

pub declarations::declare_scalar-returns-in-Unwritten-clause-made : goal.declarations::declare_scalar-returns-in-Unwritten-clause-made
declarations::declare_scalar-returns-in-Unwritten-clause-made t c = IfOk-weaker c.charge.result _ _ (λ v h. as_made (λ (i : CoreInit) s. scalar_declared (callee_of c.args.here) (call_at c.args.here) c.args.own (core_init_of i) s) _ _ _ _ _ c.in-Unwritten.is h) c.charge.ensures.made

pub declarations::declare_scalar-returns-in-Unwritten-clause-refused : goal.declarations::declare_scalar-returns-in-Unwritten-clause-refused
declarations::declare_scalar-returns-in-Unwritten-clause-refused t c = IfRefused-weaker c.charge.result _ _ (λ r h. as_heavy (λ (i : CoreInit) s. scalar_declared (callee_of c.args.here) (call_at c.args.here) c.args.own (core_init_of i) s) _ _ _ _ c.in-Unwritten.is h) c.charge.ensures.refused

pub declarations::declare_scalar-returns-in_err-value-in-Scalar-clause-refused : goal.declarations::declare_scalar-returns-in_err-value-in-Scalar-clause-refused
declarations::declare_scalar-returns-in_err-value-in-Scalar-clause-refused t c = through _ c.in_err-value-in-Scalar.field-0.0 _ _ c.from_residual-in_err-value-in-Scalar.ensures.1 (λ y e. e) c.in_err-value-in-Scalar.ensures.refused (λ r h. as_heavy (λ (i : CoreInit) s. scalar_declared (callee_of c.args.here) (call_at c.args.here) c.args.own (core_init_of i) s) _ _ _ _ c.in-Scalar.is (heavy_at_once _ _ _ _ h))

pub declarations::declare_scalar-returns-in_ok-value-in-Scalar-clause-made : goal.declarations::declare_scalar-returns-in_ok-value-in-Scalar-clause-made
declarations::declare_scalar-returns-in_ok-value-in-Scalar-clause-made t c = IfOk-weaker c.set.result _ _ (λ v h. as_made (λ (i : CoreInit) s. scalar_declared (callee_of c.args.here) (call_at c.args.here) c.args.own (core_init_of i) s) _ _ _ _ _ c.in-Scalar.is (made_behind _ _ _ _ _ _ _ c.in_ok-value-in-Scalar.ensures.made h)) c.set.ensures.made

pub declarations::declare_scalar-returns-in_ok-value-in-Scalar-clause-refused : goal.declarations::declare_scalar-returns-in_ok-value-in-Scalar-clause-refused
declarations::declare_scalar-returns-in_ok-value-in-Scalar-clause-refused t c = IfRefused-weaker c.set.result _ _ (λ r h. as_heavy (λ (i : CoreInit) s. scalar_declared (callee_of c.args.here) (call_at c.args.here) c.args.own (core_init_of i) s) _ _ _ _ c.in-Scalar.is (heavy_behind _ _ _ _ _ _ c.in_ok-value-in-Scalar.ensures.made h)) c.set.ensures.refused

pub declarations::declare_scalar-returns-in-Elements-clause-made : goal.declarations::declare_scalar-returns-in-Elements-clause-made
declarations::declare_scalar-returns-in-Elements-clause-made t c = as_made (λ (i : CoreInit) s. scalar_declared (callee_of c.args.here) (call_at c.args.here) c.args.own (core_init_of i) s) _ _ _ _ _ c.in-Elements.is (nothing_made _ _)

pub declarations::initialise-returns-in-Elements-clause-made : goal.declarations::initialise-returns-in-Elements-clause-made
declarations::initialise-returns-in-Elements-clause-made t c = IfOk-weaker c.fill.result _ _ (λ v h. as_made (λ (i : CoreInit) s. initialised (callee_of c.args.here) (call_at c.args.here) c.args.array c.args.lengths.now (core_init_of i) s) _ _ _ _ _ c.in-Elements.is (made_as _ _ _ _ _ (ap (λ (xs : List (Option CoreExpr)). filled (callee_of c.args.here) (call_at c.args.here) c.args.array c.args.lengths.now 0 (map (option_map core_of) xs) (state_of (stock c.args.work.now))) c.deref.ensures.value) h)) c.fill.ensures.made

pub declarations::initialise-returns-in-Elements-clause-refused : goal.declarations::initialise-returns-in-Elements-clause-refused
declarations::initialise-returns-in-Elements-clause-refused t c = IfRefused-weaker c.fill.result _ _ (λ r h. as_heavy (λ (i : CoreInit) s. initialised (callee_of c.args.here) (call_at c.args.here) c.args.array c.args.lengths.now (core_init_of i) s) _ _ _ _ c.in-Elements.is (heavy_as _ _ _ _ (ap (λ (xs : List (Option CoreExpr)). filled (callee_of c.args.here) (call_at c.args.here) c.args.array c.args.lengths.now 0 (map (option_map core_of) xs) (state_of (stock c.args.work.now))) c.deref.ensures.value) h)) c.fill.ensures.refused

pub declarations::initialise-returns-in-Unwritten-clause-made : goal.declarations::initialise-returns-in-Unwritten-clause-made
declarations::initialise-returns-in-Unwritten-clause-made t c = made_as _ _ _ _ _ (sym (without_elements (callee_of c.args.here) (call_at c.args.here) c.args.array c.args.lengths.now c.args.init.now (state_of (stock c.args.work.now)) c.in-Unwritten.is)) (nothing_made _ _)

pub declarations::initialise-returns-in-Unwritten-2-clause-made : goal.declarations::initialise-returns-in-Unwritten-2-clause-made
declarations::initialise-returns-in-Unwritten-2-clause-made t c = made_as _ _ _ _ _ (sym (without_elements (callee_of c.args.here) (call_at c.args.here) c.args.array c.args.lengths.now c.args.init.now (state_of (stock c.args.work.now)) c.in-Unwritten.is)) (nothing_made _ _)

pub declarations::item_value-returns-in_ok-bit-in-None-clause-made : goal.declarations::item_value-returns-in_ok-bit-in-None-clause-made
declarations::item_value-returns-in_ok-bit-in-None-clause-made t c = as_made (λ (i : Option CoreExpr) s. item_value (callee_of c.args.here) (call_at c.args.here) (option_map core_of i) s) _ _ _ _ _ c.in-None.is (given _ _ _ c.in_ok-bit-in-None.ensures)

pub declarations::item_value-returns-in-Some-clause-made : goal.declarations::item_value-returns-in-Some-clause-made
declarations::item_value-returns-in-Some-clause-made t c = IfOk-weaker c.expression.result _ _ (λ v h. as_made (λ (i : Option CoreExpr) s. item_value (callee_of c.args.here) (call_at c.args.here) (option_map core_of i) s) _ _ _ _ _ c.in-Some.is h) c.expression.ensures.made

pub declarations::item_value-returns-in-Some-clause-refused : goal.declarations::item_value-returns-in-Some-clause-refused
declarations::item_value-returns-in-Some-clause-refused t c = IfRefused-weaker c.expression.result _ _ (λ r h. as_heavy (λ (i : Option CoreExpr) s. item_value (callee_of c.args.here) (call_at c.args.here) (option_map core_of i) s) _ _ _ _ c.in-Some.is h) c.expression.ensures.refused

pub declarations::fill-loop-i-init : goal.declarations::fill-loop-i-init
declarations::fill-loop-i-init t c = begins _ _

pub declarations::fill-loop-i-preserved : goal.declarations::fill-loop-i-preserved
declarations::fill-loop-i-preserved t c = fill_turn (callee_of c.args.here) (call_at c.args.here) c.args.array c.args.lengths.now c.args.items.now c.loop-i.i c.index-items-i.result _ _ _ _ _ _ _ _ c.loop-i-test.true c.index-items-i.is c.in_ok-value.ensures.made c.in_ok-subscripts.ensures
    (piece_made _ _ _ _ _ (ap (λ (x : Pure). tree.put c.args.array (pures_of c.in_ok-subscripts.subscripts.items) (pure_of x) (call_at c.args.here).body_at) c.into_inner.ensures) c.in_ok-put.ensures.made) c.loop-i.invariant

pub declarations::fill-returns-in_err-value-clause-refused : goal.declarations::fill-returns-in_err-value-clause-refused
declarations::fill-returns-in_err-value-clause-refused t c = through _ c.in_err-value.field-0.0 _ _ c.from_residual-in_err-value.ensures.1 (λ y e. e) c.in_err-value.ensures.refused (λ r h. fill_heavy (callee_of c.args.here) (call_at c.args.here) c.args.array c.args.lengths.now c.args.items.now c.loop-i.i c.index-items-i.result _ _ _ _ c.loop-i-test.true c.index-items-i.is c.loop-i.invariant h)

pub declarations::fill-returns-in_err-put-clause-refused : goal.declarations::fill-returns-in_err-put-clause-refused
declarations::fill-returns-in_err-put-clause-refused t c = through _ c.in_err-put.field-0.0 _ _ c.from_residual-in_err-put.ensures.1 (λ y e. e) c.in_err-put.ensures.refused (λ r h. fill_heavy_put (callee_of c.args.here) (call_at c.args.here) c.args.array c.args.lengths.now c.args.items.now c.loop-i.i c.index-items-i.result _ _ _ _ _ _ _ c.loop-i-test.true c.index-items-i.is c.loop-i.invariant c.in_ok-value.ensures.made c.in_ok-subscripts.ensures
    (piece_heavy _ _ _ _ (ap (λ (x : Pure). tree.put c.args.array (pures_of c.in_ok-subscripts.subscripts.items) (pure_of x) (call_at c.args.here).body_at) c.into_inner.ensures) h))

pub declarations::fill-returns-clause-made : goal.declarations::fill-returns-clause-made
declarations::fill-returns-clause-made t c = fill_end (callee_of c.args.here) (call_at c.args.here) c.args.array c.args.lengths.now c.args.items.now c.loop-i.i _ _ _ _ c.loop-i-test.false c.loop-i.invariant

-- a statement of this tree
abbrev run : Here → Bool → CoreStmtTree → State → Part (Unit {0})
run here tail t s = statement (callee_of here) (call_at here) t tail s

abbrev other : Here → Bool → CoreElseTree → State → Part (Inner (Unit {0}))
other here tail t s = other_branch (callee_of here) (call_at here) t tail s

pub calls::argument-returns-in_err-kept-in-Value-clause-refused : goal.calls::argument-returns-in_err-kept-in-Value-clause-refused
calls::argument-returns-in_err-kept-in-Value-clause-refused t c = through _ c.in_err-kept-in-Value.field-0.0 _ _ c.from_residual-in_err-kept-in-Value.ensures.1 (λ y e. e) c.in_err-kept-in-Value.ensures.refused
    (λ r h. as_heavy (λ (a : ArgumentTree). argument (callee_of c.args.here) (call_at c.args.here) a c.args.later) _ _ _ _ (ap core_argument_of c.in-Value.is ∙ value_tree _) (heavy_behind _ _ _ _ _ _ c.in_ok-value-in-Value.ensures.made (heavy_at_once _ _ _ _ h)))

pub calls::argument-returns-in_err-value-in-Value-clause-refused : goal.calls::argument-returns-in_err-value-in-Value-clause-refused
calls::argument-returns-in_err-value-in-Value-clause-refused t c = through _ c.in_err-value-in-Value.field-0.0 _ _ c.from_residual-in_err-value-in-Value.ensures.1 (λ y e. e) c.in_err-value-in-Value.ensures.refused
    (λ r h. as_heavy (λ (a : ArgumentTree). argument (callee_of c.args.here) (call_at c.args.here) a c.args.later) _ _ _ _ (ap core_argument_of c.in-Value.is ∙ value_tree _) (heavy_at_once _ _ _ _ h))

pub calls::argument-returns-in_ok-array-in-Array-clause-made : goal.calls::argument-returns-in_ok-array-in-Array-clause-made
calls::argument-returns-in_ok-array-in-Array-clause-made t c = as_made (λ (a : ArgumentTree). argument (callee_of c.args.here) (call_at c.args.here) a c.args.later) _ _ _ _ _ (ap core_argument_of c.in-Array.is ∙ array_tree _) (given _ _ _ (ap array_given c.in_ok-array-in-Array.ensures))

pub calls::argument-returns-in_ok-kept-in-Value-clause-made : goal.calls::argument-returns-in_ok-kept-in-Value-clause-made
calls::argument-returns-in_ok-kept-in-Value-clause-made t c = as_made (λ (a : ArgumentTree). argument (callee_of c.args.here) (call_at c.args.here) a c.args.later) _ _ _ _ _ (ap core_argument_of c.in-Value.is ∙ value_tree _) (made_behind _ _ _ _ _ _ _ c.in_ok-value-in-Value.ensures.made (made_behind _ _ _ _ _ _ _ c.in_ok-kept-in-Value.ensures.made (nothing_made _ _)))

pub calls::arguments-loop-i-preserved : goal.calls::arguments-loop-i-preserved
calls::arguments-loop-i-preserved t c = arguments_turn _ _ c.args.args.now c.loop-i.i _ _ _ _ _ _ _ _ _ c.loop-i-test.true c.index-args-i.is c.in_ok-given.ensures.made (c.effects_of_arguments-later.ensures ∙ ap (λ (xs : List Argument). effects_of_arguments (argument_row (map core_argument_of xs))) (rest_of (c.loop-i.i + 1) c.args.args.now)) (ap (map given_of) c.in_ok-push.ensures.items ∙ map_push given_of _ _) c.loop-i.invariant

pub calls::arguments-returns-clause-made : goal.calls::arguments-returns-clause-made
calls::arguments-returns-clause-made t c = arguments_end _ _ c.args.args.now c.loop-i.i _ _ _ _ c.loop-i-test.false c.loop-i.invariant

pub calls::arguments-returns-in_err-given-clause-refused : goal.calls::arguments-returns-in_err-given-clause-refused
calls::arguments-returns-in_err-given-clause-refused t c = through _ c.in_err-given.field-0.0 _ _ c.from_residual-in_err-given.ensures.1 (λ y e. e) c.in_err-given.ensures.refused
    (λ r h. arguments_heavy _ _ c.args.args.now c.loop-i.i _ _ _ _ _ _ _ c.loop-i-test.true c.index-args-i.is c.loop-i.invariant (c.effects_of_arguments-later.ensures ∙ ap (λ (xs : List Argument). effects_of_arguments (argument_row (map core_argument_of xs))) (rest_of (c.loop-i.i + 1) c.args.args.now)) h)

pub calls::called-returns-clause-made : goal.calls::called-returns-clause-made
calls::called-returns-clause-made t c = IfOk-weaker c.opened.result _ _ (λ v h. made_behind _ _ _ _ _ _ _ c.in_ok-given.ensures.made (made_as _ _ _ _ _ (sym (calls_more _ _ _ _ _ _ _ _ _ c.in_ok-calls.ensures c.in_ok-function.ensures)) h)) c.opened.ensures.made

pub calls::called-returns-clause-refused : goal.calls::called-returns-clause-refused
calls::called-returns-clause-refused t c = IfRefused-weaker c.opened.result _ _ (λ r h. heavy_behind _ _ _ _ _ _ c.in_ok-given.ensures.made (heavy_as _ _ _ _ (sym (calls_more _ _ _ _ _ _ _ _ _ c.in_ok-calls.ensures c.in_ok-function.ensures)) h)) c.opened.ensures.refused

pub calls::called-returns-in_err-given-clause-refused : goal.calls::called-returns-in_err-given-clause-refused
calls::called-returns-in_err-given-clause-refused t c = through _ c.in_err-given.field-0.0 _ _ c.from_residual-in_err-given.ensures.1 (λ y e. e) c.in_err-given.ensures.refused
    (λ r h. heavy_at_once _ _ _ _ h)

pub calls::opened-returns-clause-made : goal.calls::opened-returns-clause-made
calls::opened-returns-clause-made t c = made_behind _ _ _ _ _ _ _ c.in_ok-homes.ensures.made (made_behind _ _ _ _ _ _ _ c.in_ok-call.ensures (made_behind _ _ _ _ _ _ _ c.in_ok-result.ensures (made_behind _ _ _ _ _ _ _ (made_as _ _ _ _ _ (at_path (callee_of c.args.here) (call_at c.args.here) (core_function_of c.args.function.now) _ _ _ _ _ _ c.in_ok-path.ensures) c.in_ok-run_through.ensures.made) (given _ _ _ c.in_ok-value_of.ensures))))

pub calls::opened-returns-in_err-homes-clause-refused : goal.calls::opened-returns-in_err-homes-clause-refused
calls::opened-returns-in_err-homes-clause-refused t c = through _ c.in_err-homes.field-0.0 _ _ c.from_residual-in_err-homes.ensures.1 (λ y e. e) c.in_err-homes.ensures.refused
    (λ r h. heavy_at_once _ _ _ _ h)

pub calls::opened-returns-in_err-run_through-clause-refused : goal.calls::opened-returns-in_err-run_through-clause-refused
calls::opened-returns-in_err-run_through-clause-refused t c = through _ c.in_err-run_through.field-0.0 _ _ c.from_residual-in_err-run_through.ensures.1 (λ y e. e) c.in_err-run_through.ensures.refused
    (λ r h. heavy_behind _ _ _ _ _ _ c.in_ok-homes.ensures.made (heavy_behind _ _ _ _ _ _ c.in_ok-call.ensures (heavy_behind _ _ _ _ _ _ c.in_ok-result.ensures (heavy_at_once _ _ _ _ (heavy_as _ _ _ _ (at_path (callee_of c.args.here) (call_at c.args.here) (core_function_of c.args.function.now) _ _ _ _ _ _ c.in_ok-path.ensures) h)))))

pub calls::run_through-returns-clause-made : goal.calls::run_through-returns-clause-made
calls::run_through-returns-clause-made t c = IfOk-weaker c.emit.result _ _ (λ v h. made_behind _ _ _ _ _ _ _ c.in_ok-mark.ensures.made (made_behind _ _ _ _ _ _ _ (made_as _ _ _ _ _ (ap (λ (xs : List CoreStmt). statements (callee_of c.args.here) (call_at c.args.here) (stmt_row (map core_stmt_of xs)) true (state_of (stock c.mark.new.work))) c.as_slice-body.ensures.value) c.in_ok-block.ensures.made) (piece_made _ _ _ _ _ (end_is _ _ _ _ _ _ _ c.end_of-end.ensures c.any_leaves-leaves.ensures c.as_slice-body.ensures.value c.in_ok-point.ensures) h))) c.emit.ensures.made

pub calls::run_through-returns-clause-refused : goal.calls::run_through-returns-clause-refused
calls::run_through-returns-clause-refused t c = IfRefused-weaker c.emit.result _ _ (λ r h. heavy_behind _ _ _ _ _ _ c.in_ok-mark.ensures.made (heavy_behind _ _ _ _ _ _ (made_as _ _ _ _ _ (ap (λ (xs : List CoreStmt). statements (callee_of c.args.here) (call_at c.args.here) (stmt_row (map core_stmt_of xs)) true (state_of (stock c.mark.new.work))) c.as_slice-body.ensures.value) c.in_ok-block.ensures.made) (piece_heavy _ _ _ _ (end_is _ _ _ _ _ _ _ c.end_of-end.ensures c.any_leaves-leaves.ensures c.as_slice-body.ensures.value c.in_ok-point.ensures) h))) c.emit.ensures.refused

pub calls::run_through-returns-in_err-block-clause-refused : goal.calls::run_through-returns-in_err-block-clause-refused
calls::run_through-returns-in_err-block-clause-refused t c = through _ c.in_err-block.field-0.0 _ _ c.from_residual-in_err-block.ensures.1 (λ y e. e) c.in_err-block.ensures.refused
    (λ r h. heavy_behind _ _ _ _ _ _ c.in_ok-mark.ensures.made (heavy_at_once _ _ _ _ (heavy_as _ _ _ _ (ap (λ (xs : List CoreStmt). statements (callee_of c.args.here) (call_at c.args.here) (stmt_row (map core_stmt_of xs)) true (state_of (stock c.mark.new.work))) c.as_slice-body.ensures.value) h)))

pub calls::run_through-returns-in_err-mark-clause-refused : goal.calls::run_through-returns-in_err-mark-clause-refused
calls::run_through-returns-in_err-mark-clause-refused t c = through _ c.in_err-mark.field-0.0 _ _ c.from_residual-in_err-mark.ensures.1 (λ y e. e) c.in_err-mark.ensures.refused
    (λ r h. heavy_at_once _ _ _ _ h)

pub statements::action-returns-in-Change-clause-made : goal.statements::action-returns-in-Change-clause-made
statements::action-returns-in-Change-clause-made t c = IfOk-weaker c.changed.result _ _ (λ v h. as_made (λ (a : CoreAction). action (callee_of c.args.here) (call_at c.args.here) (core_action_of a)) _ _ _ _ _ c.in-Change.is h) c.changed.ensures.made

pub statements::action-returns-in-Change-clause-refused : goal.statements::action-returns-in-Change-clause-refused
statements::action-returns-in-Change-clause-refused t c = IfRefused-weaker c.changed.result _ _ (λ r h. as_heavy (λ (a : CoreAction). action (callee_of c.args.here) (call_at c.args.here) (core_action_of a)) _ _ _ _ c.in-Change.is h) c.changed.ensures.refused

pub statements::action-returns-in-Value-clause-made : goal.statements::action-returns-in-Value-clause-made
statements::action-returns-in-Value-clause-made t c = IfOk-weaker c.valued.result _ _ (λ v h. as_made (λ (a : CoreAction). action (callee_of c.args.here) (call_at c.args.here) (core_action_of a)) _ _ _ _ _ c.in-Value.is h) c.valued.ensures.made

pub statements::action-returns-in-Value-clause-refused : goal.statements::action-returns-in-Value-clause-refused
statements::action-returns-in-Value-clause-refused t c = IfRefused-weaker c.valued.result _ _ (λ r h. as_heavy (λ (a : CoreAction). action (callee_of c.args.here) (call_at c.args.here) (core_action_of a)) _ _ _ _ c.in-Value.is h) c.valued.ensures.refused

pub statements::actions-loop-one-preserved : goal.statements::actions-loop-one-preserved
statements::actions-loop-one-preserved t c = actions_turn _ _ c.args.list.now c.loop-one.one-index _ _ _ _ _ _ c.loop-one-test.true c.one-item.is c.in_ok-action.ensures.made c.loop-one.invariant

pub statements::actions-returns-clause-made : goal.statements::actions-returns-clause-made
statements::actions-returns-clause-made t c = actions_end _ _ c.args.list.now c.loop-one.one-index _ _ _ _ c.loop-one-test.false c.loop-one.invariant

pub statements::actions-returns-in_err-action-clause-refused : goal.statements::actions-returns-in_err-action-clause-refused
statements::actions-returns-in_err-action-clause-refused t c = through _ c.in_err-action.field-0.0 _ _ c.from_residual-in_err-action.ensures.1 (λ y e. e) c.in_err-action.ensures.refused
    (λ r h. actions_heavy _ _ c.args.list.now c.loop-one.one-index _ _ _ _ _ c.loop-one-test.true c.one-item.is c.loop-one.invariant h)

pub statements::block-loop-i-preserved : goal.statements::block-loop-i-preserved
statements::block-loop-i-preserved t c = block_turn _ _ c.args.body.now c.loop-i.i _ c.args.tail _ _ _ _ _ _ c.loop-i-test.true c.index-body-i.is c.both-is_last.ensures c.in_ok-statement.ensures.made c.loop-i.invariant

pub statements::block-returns-clause-made : goal.statements::block-returns-clause-made
statements::block-returns-clause-made t c = block_end _ _ c.args.body.now c.loop-i.i c.args.tail _ _ _ _ c.loop-i-test.false c.loop-i.invariant

pub statements::block-returns-in_err-statement-clause-refused : goal.statements::block-returns-in_err-statement-clause-refused
statements::block-returns-in_err-statement-clause-refused t c = through _ c.in_err-statement.field-0.0 _ _ c.from_residual-in_err-statement.ensures.1 (λ y e. e) c.in_err-statement.ensures.refused
    (λ r h. block_heavy _ _ c.args.body.now c.loop-i.i _ c.args.tail _ _ _ _ _ c.loop-i-test.true c.index-body-i.is c.both-is_last.ensures c.loop-i.invariant h)

pub statements::branch-returns-clause-made : goal.statements::branch-returns-clause-made
statements::branch-returns-clause-made t c = enclosed _ _ _ _ _ _ _ _ c.begin-outer.ensures.begun (made_behind _ _ _ _ _ _ _ c.in_ok-mark.ensures.made (c.in_ok-statement.ensures.made)) c.begin-outer.ensures.before c.finish.ensures.made c.finish.ensures.ended

pub statements::branch-returns-in_err-mark-clause-refused : goal.statements::branch-returns-in_err-mark-clause-refused
statements::branch-returns-in_err-mark-clause-refused t c = through _ c.in_err-mark.field-0.0 _ _ c.from_residual-in_err-mark.ensures.1 (λ y e. e) c.in_err-mark.ensures.refused
    (λ r h. enclosed_heavy _ _ _ _ c.begin-outer.ensures.begun (heavy_at_once _ _ _ _ h))

pub statements::branch-returns-in_err-statement-clause-refused : goal.statements::branch-returns-in_err-statement-clause-refused
statements::branch-returns-in_err-statement-clause-refused t c = through _ c.in_err-statement.field-0.0 _ _ c.from_residual-in_err-statement.ensures.1 (λ y e. e) c.in_err-statement.ensures.refused
    (λ r h. enclosed_heavy _ _ _ _ c.begin-outer.ensures.begun (heavy_behind _ _ _ _ _ _ c.in_ok-mark.ensures.made (h)))

pub statements::changed-returns-in_default : goal.statements::changed-returns-in_default
unfolding changed
statements::changed-returns-in_default t c =
    record {
      made = IfOk-weaker c.valued.result _ _ (λ v h. made_as _ _ _ _ _ (sym (other_changed _ _ _ c.args.e.now c.in_default.not-Assign c.in_default.not-Bump)) h) c.valued.ensures.made;
      refused = IfRefused-weaker c.valued.result _ _ (λ r h. heavy_as _ _ _ _ (sym (other_changed _ _ _ c.args.e.now c.in_default.not-Assign c.in_default.not-Bump)) h) c.valued.ensures.refused;
    }

pub statements::changed-returns-in_err-change-in-Assign-clause-refused : goal.statements::changed-returns-in_err-change-in-Assign-clause-refused
unfolding changed
statements::changed-returns-in_err-change-in-Assign-clause-refused t c = through _ c.in_err-change-in-Assign.field-0.0 _ _ c.from_residual-in_err-change-in-Assign.ensures.1 (λ y e. e) c.in_err-change-in-Assign.ensures.refused
    (λ r h. as_heavy (λ (x : CoreTree). changed (callee_of c.args.here) (call_at c.args.here) x) _ _ _ _ (ap core_of c.in-Assign.is ∙ assign_core _ _ _ _ ∙ ap (λ (x : CoreExpr). core.assign (core_target_of c.in-Assign.target) c.in-Assign.op (core_of x) c.in-Assign.at) (sym c.deref.ensures)) (heavy_at_once _ _ _ _ h))

pub statements::changed-returns-in_err-change-in-Bump-clause-refused : goal.statements::changed-returns-in_err-change-in-Bump-clause-refused
unfolding changed
statements::changed-returns-in_err-change-in-Bump-clause-refused t c = through _ c.in_err-change-in-Bump.field-0.0 _ _ c.from_residual-in_err-change-in-Bump.ensures.1 (λ y e. e) c.in_err-change-in-Bump.ensures.refused
    (λ r h. as_heavy (λ (x : CoreTree). changed (callee_of c.args.here) (call_at c.args.here) x) _ _ _ _ (ap core_of c.in-Bump.is ∙ bump_core _ _ _ _) (heavy_at_once _ _ _ _ h))

pub statements::changed-returns-in_err-value-in-Assign-clause-refused : goal.statements::changed-returns-in_err-value-in-Assign-clause-refused
unfolding changed
statements::changed-returns-in_err-value-in-Assign-clause-refused t c = through _ c.in_err-value-in-Assign.field-0.0 _ _ c.from_residual-in_err-value-in-Assign.ensures.1 (λ y e. e) c.in_err-value-in-Assign.ensures.refused
    (λ r h. as_heavy (λ (x : CoreTree). changed (callee_of c.args.here) (call_at c.args.here) x) _ _ _ _ (ap core_of c.in-Assign.is ∙ assign_core _ _ _ _ ∙ ap (λ (x : CoreExpr). core.assign (core_target_of c.in-Assign.target) c.in-Assign.op (core_of x) c.in-Assign.at) (sym c.deref-in-Assign.ensures)) (heavy_behind _ _ _ _ _ _ (made_as _ _ _ _ _ (ap (λ (x : CoreExpr). targeted (callee_of c.args.here) (call_at c.args.here) (core_target_of c.in-Assign.target) (effects (core_of x)) c.in-Assign.op c.in-Assign.at (state_of (stock c.args.work.now))) (c.deref.ensures ∙ sym c.deref-in-Assign.ensures)) c.in_ok-change-in-Assign.ensures.made) (heavy_at_once _ _ _ _ h)))

pub statements::changed-returns-in_ok-one-in-Bump-clause-made : goal.statements::changed-returns-in_ok-one-in-Bump-clause-made
unfolding changed
statements::changed-returns-in_ok-one-in-Bump-clause-made t c = IfOk-weaker c.apply-in-Bump.result _ _ (λ v h. as_made (λ (x : CoreTree). changed (callee_of c.args.here) (call_at c.args.here) x) _ _ _ _ _ (ap core_of c.in-Bump.is ∙ bump_core _ _ _ _) (made_behind _ _ _ _ _ _ _ c.in_ok-change-in-Bump.ensures.made (made_as _ _ _ _ _ (ap (λ (x : PureTree). apply (call_at c.args.here) (change_of c.in_ok-change-in-Bump.change) x (state_of (stock c.step_by_one.new.work))) c.in_ok-one-in-Bump.ensures) h))) c.apply-in-Bump.ensures.made

pub statements::changed-returns-in_ok-one-in-Bump-clause-refused : goal.statements::changed-returns-in_ok-one-in-Bump-clause-refused
unfolding changed
statements::changed-returns-in_ok-one-in-Bump-clause-refused t c = IfRefused-weaker c.apply-in-Bump.result _ _ (λ r h. as_heavy (λ (x : CoreTree). changed (callee_of c.args.here) (call_at c.args.here) x) _ _ _ _ (ap core_of c.in-Bump.is ∙ bump_core _ _ _ _) (heavy_behind _ _ _ _ _ _ c.in_ok-change-in-Bump.ensures.made (heavy_as _ _ _ _ (ap (λ (x : PureTree). apply (call_at c.args.here) (change_of c.in_ok-change-in-Bump.change) x (state_of (stock c.step_by_one.new.work))) c.in_ok-one-in-Bump.ensures) h))) c.apply-in-Bump.ensures.refused

pub statements::changed-returns-in_ok-value-in-Assign-clause-made : goal.statements::changed-returns-in_ok-value-in-Assign-clause-made
unfolding changed
statements::changed-returns-in_ok-value-in-Assign-clause-made t c = IfOk-weaker c.apply.result _ _ (λ v h. as_made (λ (x : CoreTree). changed (callee_of c.args.here) (call_at c.args.here) x) _ _ _ _ _ (ap core_of c.in-Assign.is ∙ assign_core _ _ _ _ ∙ ap (λ (x : CoreExpr). core.assign (core_target_of c.in-Assign.target) c.in-Assign.op (core_of x) c.in-Assign.at) (sym c.deref-in-Assign.ensures)) (made_behind _ _ _ _ _ _ _ (made_as _ _ _ _ _ (ap (λ (x : CoreExpr). targeted (callee_of c.args.here) (call_at c.args.here) (core_target_of c.in-Assign.target) (effects (core_of x)) c.in-Assign.op c.in-Assign.at (state_of (stock c.args.work.now))) (c.deref.ensures ∙ sym c.deref-in-Assign.ensures)) c.in_ok-change-in-Assign.ensures.made) (made_behind _ _ _ _ _ _ _ c.in_ok-value-in-Assign.ensures.made (h)))) c.apply.ensures.made

pub statements::changed-returns-in_ok-value-in-Assign-clause-refused : goal.statements::changed-returns-in_ok-value-in-Assign-clause-refused
unfolding changed
statements::changed-returns-in_ok-value-in-Assign-clause-refused t c = IfRefused-weaker c.apply.result _ _ (λ r h. as_heavy (λ (x : CoreTree). changed (callee_of c.args.here) (call_at c.args.here) x) _ _ _ _ (ap core_of c.in-Assign.is ∙ assign_core _ _ _ _ ∙ ap (λ (x : CoreExpr). core.assign (core_target_of c.in-Assign.target) c.in-Assign.op (core_of x) c.in-Assign.at) (sym c.deref-in-Assign.ensures)) (heavy_behind _ _ _ _ _ _ (made_as _ _ _ _ _ (ap (λ (x : CoreExpr). targeted (callee_of c.args.here) (call_at c.args.here) (core_target_of c.in-Assign.target) (effects (core_of x)) c.in-Assign.op c.in-Assign.at (state_of (stock c.args.work.now))) (c.deref.ensures ∙ sym c.deref-in-Assign.ensures)) c.in_ok-change-in-Assign.ensures.made) (heavy_behind _ _ _ _ _ _ c.in_ok-value-in-Assign.ensures.made (h)))) c.apply.ensures.refused

pub statements::loop_body-returns-clause-made : goal.statements::loop_body-returns-clause-made
statements::loop_body-returns-clause-made t c = enclosed _ _ _ _ _ _ _ _ c.begin-outer.ensures.begun (made_behind _ _ _ _ _ _ _ c.in_ok-mark.ensures.made (c.in_ok-statement.ensures.made)) c.begin-outer.ensures.before c.finish.ensures.made c.finish.ensures.ended

pub statements::loop_body-returns-in_err-mark-clause-refused : goal.statements::loop_body-returns-in_err-mark-clause-refused
statements::loop_body-returns-in_err-mark-clause-refused t c = through _ c.in_err-mark.field-0.0 _ _ c.from_residual-in_err-mark.ensures.1 (λ y e. e) c.in_err-mark.ensures.refused
    (λ r h. enclosed_heavy _ _ _ _ c.begin-outer.ensures.begun (heavy_at_once _ _ _ _ h))

pub statements::loop_body-returns-in_err-statement-clause-refused : goal.statements::loop_body-returns-in_err-statement-clause-refused
statements::loop_body-returns-in_err-statement-clause-refused t c = through _ c.in_err-statement.field-0.0 _ _ c.from_residual-in_err-statement.ensures.1 (λ y e. e) c.in_err-statement.ensures.refused
    (λ r h. enclosed_heavy _ _ _ _ c.begin-outer.ensures.begun (heavy_behind _ _ _ _ _ _ c.in_ok-mark.ensures.made (h)))

pub statements::repeat-returns-clause-made : goal.statements::repeat-returns-clause-made
statements::repeat-returns-clause-made t c = IfOk-weaker c.emit_repeat.result _ _ (λ v h. made_behind _ _ _ _ _ _ _ c.in_ok-id.ensures (made_behind _ _ _ _ _ _ _ (enclosed _ _ _ _ _ _ _ _ c.begin-outer.ensures.begun (made_behind _ _ _ _ _ _ _ c.in_ok-mark.ensures.made (c.in_ok-test.ensures.made)) c.begin-outer.ensures.before c.finish-before.ensures.made c.finish-before.ensures.ended) (made_behind _ _ _ _ _ _ _ c.in_ok-body.ensures.made (made_behind _ _ _ _ _ _ _ c.in_ok-step.ensures.made h)))) c.emit_repeat.ensures.made

pub statements::repeat-returns-clause-refused : goal.statements::repeat-returns-clause-refused
statements::repeat-returns-clause-refused t c = IfRefused-weaker c.emit_repeat.result _ _ (λ r h. heavy_behind _ _ _ _ _ _ c.in_ok-id.ensures (heavy_behind _ _ _ _ _ _ (enclosed _ _ _ _ _ _ _ _ c.begin-outer.ensures.begun (made_behind _ _ _ _ _ _ _ c.in_ok-mark.ensures.made (c.in_ok-test.ensures.made)) c.begin-outer.ensures.before c.finish-before.ensures.made c.finish-before.ensures.ended) (heavy_behind _ _ _ _ _ _ c.in_ok-body.ensures.made (heavy_behind _ _ _ _ _ _ c.in_ok-step.ensures.made h)))) c.emit_repeat.ensures.refused

pub statements::repeat-returns-in_err-body-clause-refused : goal.statements::repeat-returns-in_err-body-clause-refused
statements::repeat-returns-in_err-body-clause-refused t c = through _ c.in_err-body.field-0.0 _ _ c.from_residual-in_err-body.ensures.1 (λ y e. e) c.in_err-body.ensures.refused
    (λ r h. heavy_behind _ _ _ _ _ _ c.in_ok-id.ensures (heavy_behind _ _ _ _ _ _ (enclosed _ _ _ _ _ _ _ _ c.begin-outer.ensures.begun (made_behind _ _ _ _ _ _ _ c.in_ok-mark.ensures.made (c.in_ok-test.ensures.made)) c.begin-outer.ensures.before c.finish-before.ensures.made c.finish-before.ensures.ended) (heavy_at_once _ _ _ _ h)))

pub statements::repeat-returns-in_err-mark-clause-refused : goal.statements::repeat-returns-in_err-mark-clause-refused
statements::repeat-returns-in_err-mark-clause-refused t c = through _ c.in_err-mark.field-0.0 _ _ c.from_residual-in_err-mark.ensures.1 (λ y e. e) c.in_err-mark.ensures.refused
    (λ r h. heavy_behind _ _ _ _ _ _ c.in_ok-id.ensures (heavy_at_once _ _ _ _ (enclosed_heavy _ _ _ _ c.begin-outer.ensures.begun (heavy_at_once _ _ _ _ h))))

pub statements::repeat-returns-in_err-step-clause-refused : goal.statements::repeat-returns-in_err-step-clause-refused
statements::repeat-returns-in_err-step-clause-refused t c = through _ c.in_err-step.field-0.0 _ _ c.from_residual-in_err-step.ensures.1 (λ y e. e) c.in_err-step.ensures.refused
    (λ r h. heavy_behind _ _ _ _ _ _ c.in_ok-id.ensures (heavy_behind _ _ _ _ _ _ (enclosed _ _ _ _ _ _ _ _ c.begin-outer.ensures.begun (made_behind _ _ _ _ _ _ _ c.in_ok-mark.ensures.made (c.in_ok-test.ensures.made)) c.begin-outer.ensures.before c.finish-before.ensures.made c.finish-before.ensures.ended) (heavy_behind _ _ _ _ _ _ c.in_ok-body.ensures.made (heavy_at_once _ _ _ _ h))))

pub statements::repeat-returns-in_err-test-clause-refused : goal.statements::repeat-returns-in_err-test-clause-refused
statements::repeat-returns-in_err-test-clause-refused t c = through _ c.in_err-test.field-0.0 _ _ c.from_residual-in_err-test.ensures.1 (λ y e. e) c.in_err-test.ensures.refused
    (λ r h. heavy_behind _ _ _ _ _ _ c.in_ok-id.ensures (heavy_at_once _ _ _ _ (enclosed_heavy _ _ _ _ c.begin-outer.ensures.begun (heavy_behind _ _ _ _ _ _ c.in_ok-mark.ensures.made (h)))))

pub statements::returned-returns-clause-made : goal.statements::returned-returns-clause-made
statements::returned-returns-clause-made t c = IfOk-weaker c.emit.result _ _ (λ v h. made_behind _ _ _ _ _ _ _ c.in_ok-set_result.ensures.made (second_made _ _ _ _ _ _ c.if-tail.false (piece_made _ _ _ _ _ (leave_piece _) h))) c.emit.ensures.made

pub statements::returned-returns-clause-refused : goal.statements::returned-returns-clause-refused
statements::returned-returns-clause-refused t c = IfRefused-weaker c.emit.result _ _ (λ r h. heavy_behind _ _ _ _ _ _ c.in_ok-set_result.ensures.made (second_heavy _ _ _ _ _ c.if-tail.false (piece_heavy _ _ _ _ (leave_piece _) h))) c.emit.ensures.refused

pub statements::returned-returns-in_err-set_result-clause-refused : goal.statements::returned-returns-in_err-set_result-clause-refused
statements::returned-returns-in_err-set_result-clause-refused t c = through _ c.in_err-set_result.field-0.0 _ _ c.from_residual-in_err-set_result.ensures.1 (λ y e. e) c.in_err-set_result.ensures.refused
    (λ r h. heavy_at_once _ _ _ _ h)

pub statements::returned-returns-then-tail-clause-made : goal.statements::returned-returns-then-tail-clause-made
statements::returned-returns-then-tail-clause-made t c = made_behind _ _ _ _ _ _ _ c.in_ok-set_result.ensures.made (first_made _ _ _ _ _ _ c.if-tail.true (nothing_made _ _))

pub statements::second_branch-returns-in-None-clause-made : goal.statements::second_branch-returns-in-None-clause-made
statements::second_branch-returns-in-None-clause-made t c = as_made (other c.args.here c.args.tail) _ _ _ _ _ (ap (λ (o : Option CoreElse). core_else_part (option_map core_else_of o)) c.in-None.is) (nothing_enclosed _ _ _ (ap (map piece_of) c.new.ensures.items))

pub statements::second_branch-returns-in-Some-clause-made : goal.statements::second_branch-returns-in-Some-clause-made
statements::second_branch-returns-in-Some-clause-made t c = IfOk-weaker c.branch-here.result _ _ (λ v h. as_made (other c.args.here c.args.tail) _ _ _ _ _ (ap (λ (o : Option CoreElse). core_else_part (option_map core_else_of o)) c.in-Some.is ∙ else_tree _ _ c.deref.ensures) h) c.branch-here.ensures.made

pub statements::second_branch-returns-in-Some-clause-refused : goal.statements::second_branch-returns-in-Some-clause-refused
statements::second_branch-returns-in-Some-clause-refused t c = IfRefused-weaker c.branch-here.result _ _ (λ r h. as_heavy (other c.args.here c.args.tail) _ _ _ _ (ap (λ (o : Option CoreElse). core_else_part (option_map core_else_of o)) c.in-Some.is ∙ else_tree _ _ c.deref.ensures) h) c.branch-here.ensures.refused

pub statements::set_result-returns-in-None-clause-made : goal.statements::set_result-returns-in-None-clause-made
statements::set_result-returns-in-None-clause-made t c = as_made (λ (o : Option CoreExpr). result_set (callee_of c.args.here) (call_at c.args.here) (option_map core_of o)) _ _ _ _ _ c.in-None.is (nothing_made _ _)

pub statements::set_result-returns-in_err-value-in-Some-clause-refused : goal.statements::set_result-returns-in_err-value-in-Some-clause-refused
statements::set_result-returns-in_err-value-in-Some-clause-refused t c = through _ c.in_err-value-in-Some.field-0.0 _ _ c.from_residual-in_err-value-in-Some.ensures.1 (λ y e. e) c.in_err-value-in-Some.ensures.refused
    (λ r h. as_heavy (λ (o : Option CoreExpr). result_set (callee_of c.args.here) (call_at c.args.here) (option_map core_of o)) _ _ _ _ c.in-Some.is (heavy_at_once _ _ _ _ h))

pub statements::set_result-returns-in_ok-result-in-Some-clause-made : goal.statements::set_result-returns-in_ok-result-in-Some-clause-made
statements::set_result-returns-in_ok-result-in-Some-clause-made t c = IfOk-weaker c.set.result _ _ (λ v h. as_made (λ (o : Option CoreExpr). result_set (callee_of c.args.here) (call_at c.args.here) (option_map core_of o)) _ _ _ _ _ c.in-Some.is (made_behind _ _ _ _ _ _ _ c.in_ok-value-in-Some.ensures.made (piece_made _ _ _ _ _ (ap (λ (o : Option VarId). tree.set (result_variable o) (pure_of c.in_ok-value-in-Some.value)) (sym c.in_ok-result-in-Some.ensures.ok_part)) h))) c.set.ensures.made

pub statements::set_result-returns-in_ok-result-in-Some-clause-refused : goal.statements::set_result-returns-in_ok-result-in-Some-clause-refused
statements::set_result-returns-in_ok-result-in-Some-clause-refused t c = IfRefused-weaker c.set.result _ _ (λ r h. as_heavy (λ (o : Option CoreExpr). result_set (callee_of c.args.here) (call_at c.args.here) (option_map core_of o)) _ _ _ _ c.in-Some.is (heavy_behind _ _ _ _ _ _ c.in_ok-value-in-Some.ensures.made (piece_heavy _ _ _ _ (ap (λ (o : Option VarId). tree.set (result_variable o) (pure_of c.in_ok-value-in-Some.value)) (sym c.in_ok-result-in-Some.ensures.ok_part)) h))) c.set.ensures.refused

pub statements::statement-returns-in-Act-clause-made : goal.statements::statement-returns-in-Act-clause-made
statements::statement-returns-in-Act-clause-made t c = IfOk-weaker c.actions.result _ _ (λ v h. as_made (run c.args.here c.args.tail) _ _ _ _ _ (ap core_stmt_of c.in-Act.is ∙ act_tree _ _ c.deref-in-Act.ensures.value) (h)) c.actions.ensures.made

pub statements::statement-returns-in-Act-clause-refused : goal.statements::statement-returns-in-Act-clause-refused
statements::statement-returns-in-Act-clause-refused t c = IfRefused-weaker c.actions.result _ _ (λ r h. as_heavy (run c.args.here c.args.tail) _ _ _ _ (ap core_stmt_of c.in-Act.is ∙ act_tree _ _ c.deref-in-Act.ensures.value) (h)) c.actions.ensures.refused

pub statements::statement-returns-in-Block-clause-made : goal.statements::statement-returns-in-Block-clause-made
statements::statement-returns-in-Block-clause-made t c = IfOk-weaker c.block.result _ _ (λ v h. as_made (run c.args.here c.args.tail) _ _ _ _ _ (ap core_stmt_of c.in-Block.is ∙ block_tree _ _ _ c.deref.ensures.value) (h)) c.block.ensures.made

pub statements::statement-returns-in-Block-clause-refused : goal.statements::statement-returns-in-Block-clause-refused
statements::statement-returns-in-Block-clause-refused t c = IfRefused-weaker c.block.result _ _ (λ r h. as_heavy (run c.args.here c.args.tail) _ _ _ _ (ap core_stmt_of c.in-Block.is ∙ block_tree _ _ _ c.deref.ensures.value) (h)) c.block.ensures.refused

pub statements::statement-returns-in-Break-clause-made : goal.statements::statement-returns-in-Break-clause-made
statements::statement-returns-in-Break-clause-made t c = IfOk-weaker c.emit_break.result _ _ (λ v h. as_made (run c.args.here c.args.tail) _ _ _ _ _ (ap core_stmt_of c.in-Break.is ∙ break_tree) h) c.emit_break.ensures.made

pub statements::statement-returns-in-Break-clause-refused : goal.statements::statement-returns-in-Break-clause-refused
statements::statement-returns-in-Break-clause-refused t c = IfRefused-weaker c.emit_break.result _ _ (λ r h. as_heavy (run c.args.here c.args.tail) _ _ _ _ (ap core_stmt_of c.in-Break.is ∙ break_tree) h) c.emit_break.ensures.refused

pub statements::statement-returns-in-Continue-clause-made : goal.statements::statement-returns-in-Continue-clause-made
statements::statement-returns-in-Continue-clause-made t c = IfOk-weaker c.emit_next.result _ _ (λ v h. as_made (run c.args.here c.args.tail) _ _ _ _ _ (ap core_stmt_of c.in-Continue.is ∙ continue_tree) h) c.emit_next.ensures.made

pub statements::statement-returns-in-Continue-clause-refused : goal.statements::statement-returns-in-Continue-clause-refused
statements::statement-returns-in-Continue-clause-refused t c = IfRefused-weaker c.emit_next.result _ _ (λ r h. as_heavy (run c.args.here c.args.tail) _ _ _ _ (ap core_stmt_of c.in-Continue.is ∙ continue_tree) h) c.emit_next.ensures.refused

pub statements::statement-returns-in-Declare-clause-made : goal.statements::statement-returns-in-Declare-clause-made
statements::statement-returns-in-Declare-clause-made t c = IfOk-weaker c.declare.result _ _ (λ v h. as_made (run c.args.here c.args.tail) _ _ _ _ _ (ap core_stmt_of c.in-Declare.is ∙ declare_tree _ _) (h)) c.declare.ensures.made

pub statements::statement-returns-in-Declare-clause-refused : goal.statements::statement-returns-in-Declare-clause-refused
statements::statement-returns-in-Declare-clause-refused t c = IfRefused-weaker c.declare.result _ _ (λ r h. as_heavy (run c.args.here c.args.tail) _ _ _ _ (ap core_stmt_of c.in-Declare.is ∙ declare_tree _ _) (h)) c.declare.ensures.refused

pub statements::statement-returns-in-Do-clause-made : goal.statements::statement-returns-in-Do-clause-made
statements::statement-returns-in-Do-clause-made t c = IfOk-weaker c.repeat-in-Do.result _ _ (λ v h. as_made (run c.args.here c.args.tail) _ _ _ _ _ (ap core_stmt_of c.in-Do.is ∙ do_tree _ _ _ _ c.deref-in-Do.ensures) (as_made (λ (l : LoopTree). repeat_of (callee_of c.args.here) (call_at c.args.here) l) _ _ _ _ _ (sym c.of_do.ensures) h)) c.repeat-in-Do.ensures.made

pub statements::statement-returns-in-Do-clause-refused : goal.statements::statement-returns-in-Do-clause-refused
statements::statement-returns-in-Do-clause-refused t c = IfRefused-weaker c.repeat-in-Do.result _ _ (λ r h. as_heavy (run c.args.here c.args.tail) _ _ _ _ (ap core_stmt_of c.in-Do.is ∙ do_tree _ _ _ _ c.deref-in-Do.ensures) (as_heavy (λ (l : LoopTree). repeat_of (callee_of c.args.here) (call_at c.args.here) l) _ _ _ _ (sym c.of_do.ensures) h)) c.repeat-in-Do.ensures.refused

pub statements::statement-returns-in-Return-clause-made : goal.statements::statement-returns-in-Return-clause-made
statements::statement-returns-in-Return-clause-made t c = IfOk-weaker c.returned.result _ _ (λ v h. as_made (run c.args.here c.args.tail) _ _ _ _ _ (ap core_stmt_of c.in-Return.is ∙ return_tree _) (h)) c.returned.ensures.made

pub statements::statement-returns-in-Return-clause-refused : goal.statements::statement-returns-in-Return-clause-refused
statements::statement-returns-in-Return-clause-refused t c = IfRefused-weaker c.returned.result _ _ (λ r h. as_heavy (run c.args.here c.args.tail) _ _ _ _ (ap core_stmt_of c.in-Return.is ∙ return_tree _) (h)) c.returned.ensures.refused

pub statements::statement-returns-in-Switch-clause-made : goal.statements::statement-returns-in-Switch-clause-made
statements::statement-returns-in-Switch-clause-made t c = IfOk-weaker c.switch.result _ _ (λ v h. as_made (run c.args.here c.args.tail) _ _ _ _ _ (ap core_stmt_of c.in-Switch.is ∙ switch_tree _ _ _ _ _ c.deref-in-Switch.ensures.value) (h)) c.switch.ensures.made

pub statements::statement-returns-in-Switch-clause-refused : goal.statements::statement-returns-in-Switch-clause-refused
statements::statement-returns-in-Switch-clause-refused t c = IfRefused-weaker c.switch.result _ _ (λ r h. as_heavy (run c.args.here c.args.tail) _ _ _ _ (ap core_stmt_of c.in-Switch.is ∙ switch_tree _ _ _ _ _ c.deref-in-Switch.ensures.value) (h)) c.switch.ensures.refused

pub statements::statement-returns-in-While-clause-made : goal.statements::statement-returns-in-While-clause-made
statements::statement-returns-in-While-clause-made t c = IfOk-weaker c.repeat.result _ _ (λ v h. as_made (run c.args.here c.args.tail) _ _ _ _ _ (ap core_stmt_of c.in-While.is ∙ while_tree _ _ _ _ c.deref-in-While.ensures) (as_made (λ (l : LoopTree). repeat_of (callee_of c.args.here) (call_at c.args.here) l) _ _ _ _ _ (sym c.of_while.ensures) h)) c.repeat.ensures.made

pub statements::statement-returns-in-While-clause-refused : goal.statements::statement-returns-in-While-clause-refused
statements::statement-returns-in-While-clause-refused t c = IfRefused-weaker c.repeat.result _ _ (λ r h. as_heavy (run c.args.here c.args.tail) _ _ _ _ (ap core_stmt_of c.in-While.is ∙ while_tree _ _ _ _ c.deref-in-While.ensures) (as_heavy (λ (l : LoopTree). repeat_of (callee_of c.args.here) (call_at c.args.here) l) _ _ _ _ (sym c.of_while.ensures) h)) c.repeat.ensures.refused

pub statements::statement-returns-in_err-block-in-For-clause-refused : goal.statements::statement-returns-in_err-block-in-For-clause-refused
statements::statement-returns-in_err-block-in-For-clause-refused t c = through _ c.in_err-block-in-For.field-0.0 _ _ c.from_residual-in_err-block-in-For.ensures.1 (λ y e. e) c.in_err-block-in-For.ensures.refused
    (λ r h. as_heavy (run c.args.here c.args.tail) _ _ _ _ (ap core_stmt_of c.in-For.is ∙ for_tree _ _ _ _ _ _ _ _ _ c.deref-in-For.ensures.value refl refl) (heavy_at_once _ _ _ _ h))

pub statements::statement-returns-in_err-label-in-Case-clause-refused : goal.statements::statement-returns-in_err-label-in-Case-clause-refused
statements::statement-returns-in_err-label-in-Case-clause-refused t c = through _ c.in_err-label-in-Case.field-0.0 _ _ c.from_residual-in_err-label-in-Case.ensures.1 (λ y e. e) c.in_err-label-in-Case.ensures.refused
    (λ r h. as_heavy (run c.args.here c.args.tail) _ _ _ _ (ap core_stmt_of c.in-Case.is ∙ case_tree _ _ _ _ refl) (heavy_at_once _ _ _ _ h))

pub statements::statement-returns-in_ok-block-in-For-clause-made : goal.statements::statement-returns-in_ok-block-in-For-clause-made
statements::statement-returns-in_ok-block-in-For-clause-made t c = IfOk-weaker c.repeat-in-For.result _ _ (λ v h. as_made (run c.args.here c.args.tail) _ _ _ _ _ (ap core_stmt_of c.in-For.is ∙ for_tree _ _ _ _ _ _ _ _ _ c.deref-in-For.ensures.value c.deref-in-For-2.ensures.value c.deref-in-For-3.ensures) (made_behind _ _ _ _ _ _ _ c.in_ok-block-in-For.ensures.made (as_made (λ (l : LoopTree). repeat_of (callee_of c.args.here) (call_at c.args.here) l) _ _ _ _ _ (sym c.of_for.ensures) h))) c.repeat-in-For.ensures.made

pub statements::statement-returns-in_ok-block-in-For-clause-refused : goal.statements::statement-returns-in_ok-block-in-For-clause-refused
statements::statement-returns-in_ok-block-in-For-clause-refused t c = IfRefused-weaker c.repeat-in-For.result _ _ (λ r h. as_heavy (run c.args.here c.args.tail) _ _ _ _ (ap core_stmt_of c.in-For.is ∙ for_tree _ _ _ _ _ _ _ _ _ c.deref-in-For.ensures.value c.deref-in-For-2.ensures.value c.deref-in-For-3.ensures) (heavy_behind _ _ _ _ _ _ c.in_ok-block-in-For.ensures.made (as_heavy (λ (l : LoopTree). repeat_of (callee_of c.args.here) (call_at c.args.here) l) _ _ _ _ (sym c.of_for.ensures) h))) c.repeat-in-For.ensures.refused

pub statements::statement-returns-in_ok-label-in-Case-clause-made : goal.statements::statement-returns-in_ok-label-in-Case-clause-made
statements::statement-returns-in_ok-label-in-Case-clause-made t c = IfOk-weaker c.statement.result _ _ (λ v h. as_made (run c.args.here c.args.tail) _ _ _ _ _ (ap core_stmt_of c.in-Case.is ∙ case_tree _ _ _ _ c.deref-in-Case.ensures) (made_behind _ _ _ _ _ _ _ c.in_ok-label-in-Case.ensures.made (h))) c.statement.ensures.made

pub statements::statement-returns-in_ok-label-in-Case-clause-refused : goal.statements::statement-returns-in_ok-label-in-Case-clause-refused
statements::statement-returns-in_ok-label-in-Case-clause-refused t c = IfRefused-weaker c.statement.result _ _ (λ r h. as_heavy (run c.args.here c.args.tail) _ _ _ _ (ap core_stmt_of c.in-Case.is ∙ case_tree _ _ _ _ c.deref-in-Case.ensures) (heavy_behind _ _ _ _ _ _ c.in_ok-label-in-Case.ensures.made (h))) c.statement.ensures.refused

pub statements::step_of-returns-clause-made : goal.statements::step_of-returns-clause-made
statements::step_of-returns-clause-made t c = enclosed _ _ _ _ _ _ _ _ c.begin-outer.ensures.begun c.in_ok-stepped.ensures.made c.begin-outer.ensures.before c.finish.ensures.made c.finish.ensures.ended

pub statements::step_of-returns-in_err-stepped-clause-refused : goal.statements::step_of-returns-in_err-stepped-clause-refused
statements::step_of-returns-in_err-stepped-clause-refused t c = through _ c.in_err-stepped.field-0.0 _ _ c.from_residual-in_err-stepped.ensures.1 (λ y e. e) c.in_err-stepped.ensures.refused
    (λ r h. enclosed_heavy _ _ _ _ c.begin-outer.ensures.begun h)

pub statements::stepped-returns-clause-made : goal.statements::stepped-returns-clause-made
statements::stepped-returns-clause-made t c = IfOk-weaker c.actions.result _ _ (λ v h. made_as _ _ _ _ _ (sym (some_steps (callee_of c.args.here) (call_at c.args.here) _ c.args.step.now c.args.at (sym c.is_empty.ensures ∙ c.if-is_empty.false))) (made_behind _ _ _ _ _ _ _ c.in_ok-mark.ensures.made (h))) c.actions.ensures.made

pub statements::stepped-returns-clause-refused : goal.statements::stepped-returns-clause-refused
statements::stepped-returns-clause-refused t c = IfRefused-weaker c.actions.result _ _ (λ r h. heavy_as _ _ _ _ (sym (some_steps (callee_of c.args.here) (call_at c.args.here) _ c.args.step.now c.args.at (sym c.is_empty.ensures ∙ c.if-is_empty.false))) (heavy_behind _ _ _ _ _ _ c.in_ok-mark.ensures.made (h))) c.actions.ensures.refused

pub statements::stepped-returns-in_err-mark-clause-refused : goal.statements::stepped-returns-in_err-mark-clause-refused
statements::stepped-returns-in_err-mark-clause-refused t c = through _ c.in_err-mark.field-0.0 _ _ c.from_residual-in_err-mark.ensures.1 (λ y e. e) c.in_err-mark.ensures.refused
    (λ r h. heavy_as _ _ _ _ (sym (some_steps (callee_of c.args.here) (call_at c.args.here) _ c.args.step.now c.args.at (sym c.is_empty.ensures ∙ c.if-is_empty.false))) (heavy_at_once _ _ _ _ h))

pub statements::stepped-returns-then-is_empty-clause-made : goal.statements::stepped-returns-then-is_empty-clause-made
statements::stepped-returns-then-is_empty-clause-made t c = made_as _ _ _ _ _ (sym (no_step (callee_of c.args.here) (call_at c.args.here) _ c.args.step.now c.args.at (sym c.is_empty.ensures ∙ c.if-is_empty.true))) (nothing_made _ _)

pub statements::switch-returns-clause-made : goal.statements::switch-returns-clause-made
statements::switch-returns-clause-made t c = IfOk-weaker c.emit_pick.result _ _ (λ v h. made_behind _ _ _ _ _ _ _ c.in_ok-test.ensures.made (made_behind _ _ _ _ _ _ _ (enclosed_switch _ _ _ _ _ _ _ _ _ _ _ _ c.begin-outer.ensures.begun c.begin_labels-outer_labels.ensures.begun c.in_ok-block.ensures.made c.begin-outer.ensures.before c.begin_labels-outer_labels.ensures.before c.finish_labels-labels.ensures.made c.finish_labels-labels.ensures.ended c.finish-body.ensures.made c.finish-body.ensures.ended) h)) c.emit_pick.ensures.made

pub statements::switch-returns-clause-refused : goal.statements::switch-returns-clause-refused
statements::switch-returns-clause-refused t c = IfRefused-weaker c.emit_pick.result _ _ (λ r h. heavy_behind _ _ _ _ _ _ c.in_ok-test.ensures.made (heavy_behind _ _ _ _ _ _ (enclosed_switch _ _ _ _ _ _ _ _ _ _ _ _ c.begin-outer.ensures.begun c.begin_labels-outer_labels.ensures.begun c.in_ok-block.ensures.made c.begin-outer.ensures.before c.begin_labels-outer_labels.ensures.before c.finish_labels-labels.ensures.made c.finish_labels-labels.ensures.ended c.finish-body.ensures.made c.finish-body.ensures.ended) h)) c.emit_pick.ensures.refused

pub statements::switch-returns-in_err-block-clause-refused : goal.statements::switch-returns-in_err-block-clause-refused
statements::switch-returns-in_err-block-clause-refused t c = through _ c.in_err-block.field-0.0 _ _ c.from_residual-in_err-block.ensures.1 (λ y e. e) c.in_err-block.ensures.refused
    (λ r h. heavy_behind _ _ _ _ _ _ c.in_ok-test.ensures.made (heavy_at_once _ _ _ _ (enclosed_switch_heavy _ _ _ _ _ c.begin-outer.ensures.begun c.begin_labels-outer_labels.ensures.begun h)))

pub statements::switch-returns-in_err-test-clause-refused : goal.statements::switch-returns-in_err-test-clause-refused
statements::switch-returns-in_err-test-clause-refused t c = through _ c.in_err-test.field-0.0 _ _ c.from_residual-in_err-test.ensures.1 (λ y e. e) c.in_err-test.ensures.refused
    (λ r h. heavy_at_once _ _ _ _ h)

pub statements::tested-returns-in_ok-bit-in-None-clause-made : goal.statements::tested-returns-in_ok-bit-in-None-clause-made
statements::tested-returns-in_ok-bit-in-None-clause-made t c = as_made (λ (o : Option CoreTree). tested (callee_of c.args.here) (call_at c.args.here) o) _ _ _ _ _ (ap test_of c.in-None.is) (given _ _ _ c.in_ok-bit-in-None.ensures)

pub statements::tested-returns-in-Some-clause-made : goal.statements::tested-returns-in-Some-clause-made
statements::tested-returns-in-Some-clause-made t c = IfOk-weaker c.expression.result _ _ (λ v h. as_made (λ (o : Option CoreTree). tested (callee_of c.args.here) (call_at c.args.here) o) _ _ _ _ _ (ap test_of c.in-Some.is) h) c.expression.ensures.made

pub statements::tested-returns-in-Some-clause-refused : goal.statements::tested-returns-in-Some-clause-refused
statements::tested-returns-in-Some-clause-refused t c = IfRefused-weaker c.expression.result _ _ (λ r h. as_heavy (λ (o : Option CoreTree). tested (callee_of c.args.here) (call_at c.args.here) o) _ _ _ _ (ap test_of c.in-Some.is) h) c.expression.ensures.refused

pub statements::valued-returns-clause-made : goal.statements::valued-returns-clause-made
unfolding valued
statements::valued-returns-clause-made t c = IfOk-weaker c.discard.result _ _ (λ v h. made_behind _ _ _ _ _ _ _ c.in_ok-value.ensures.made (made_as _ _ _ _ _ (ap (λ (b : Bool). discarded b (pure_of c.in_ok-value.value) (state_of (stock c.expression.new.work))) c.is_call.ensures) h)) c.discard.ensures.made

pub statements::valued-returns-clause-refused : goal.statements::valued-returns-clause-refused
unfolding valued
statements::valued-returns-clause-refused t c = IfRefused-weaker c.discard.result _ _ (λ r h. heavy_behind _ _ _ _ _ _ c.in_ok-value.ensures.made (heavy_as _ _ _ _ (ap (λ (b : Bool). discarded b (pure_of c.in_ok-value.value) (state_of (stock c.expression.new.work))) c.is_call.ensures) h)) c.discard.ensures.refused

pub statements::valued-returns-in_err-value-clause-refused : goal.statements::valued-returns-in_err-value-clause-refused
unfolding valued
statements::valued-returns-in_err-value-clause-refused t c = through _ c.in_err-value.field-0.0 _ _ c.from_residual-in_err-value.ensures.1 (λ y e. e) c.in_err-value.ensures.refused
    (λ r h. heavy_at_once _ _ _ _ h)

pub statements::conditional-returns-in_err-no-clause-refused : goal.statements::conditional-returns-in_err-no-clause-refused
statements::conditional-returns-in_err-no-clause-refused t c = through _ c.in_err-no.field-0.0 _ _ c.from_residual-in_err-no.ensures.1 (λ y e. e) c.in_err-no.ensures.refused
    (λ r h. (heavy_behind _ _ _ _ _ _ c.in_ok-test.ensures.made (heavy_behind _ _ _ _ _ _ c.in_ok-yes.ensures.made (heavy_at_once _ _ _ _ h))))

pub statements::conditional-returns-in_err-test-clause-refused : goal.statements::conditional-returns-in_err-test-clause-refused
statements::conditional-returns-in_err-test-clause-refused t c = through _ c.in_err-test.field-0.0 _ _ c.from_residual-in_err-test.ensures.1 (λ y e. e) c.in_err-test.ensures.refused
    (λ r h. (heavy_at_once _ _ _ _ h))

pub statements::conditional-returns-in_err-yes-clause-refused : goal.statements::conditional-returns-in_err-yes-clause-refused
statements::conditional-returns-in_err-yes-clause-refused t c = through _ c.in_err-yes.field-0.0 _ _ c.from_residual-in_err-yes.ensures.1 (λ y e. e) c.in_err-yes.ensures.refused
    (λ r h. (heavy_behind _ _ _ _ _ _ c.in_ok-test.ensures.made (heavy_at_once _ _ _ _ h)))

pub statements::conditional-returns-clause-made : goal.statements::conditional-returns-clause-made
statements::conditional-returns-clause-made t c = IfOk-weaker c.emit_fork.result _ _ (λ v h. (made_behind _ _ _ _ _ _ _ c.in_ok-test.ensures.made (made_behind _ _ _ _ _ _ _ c.in_ok-yes.ensures.made (made_behind _ _ _ _ _ _ _ c.in_ok-no.ensures.made h)))) c.emit_fork.ensures.made

pub statements::conditional-returns-clause-refused : goal.statements::conditional-returns-clause-refused
statements::conditional-returns-clause-refused t c = IfRefused-weaker c.emit_fork.result _ _ (λ r h. (heavy_behind _ _ _ _ _ _ c.in_ok-test.ensures.made (heavy_behind _ _ _ _ _ _ c.in_ok-yes.ensures.made (heavy_behind _ _ _ _ _ _ c.in_ok-no.ensures.made h)))) c.emit_fork.ensures.refused

pub statements::statement-returns-in-If-clause-made : goal.statements::statement-returns-in-If-clause-made
statements::statement-returns-in-If-clause-made t c = IfOk-weaker c.conditional.result _ _ (λ v h. as_made (run c.args.here c.args.tail) _ _ _ _ _ (ap core_stmt_of c.in-If.is ∙ if_tree _ _ _ _ _ c.deref-in-If.ensures) h) c.conditional.ensures.made

pub statements::statement-returns-in-If-clause-refused : goal.statements::statement-returns-in-If-clause-refused
statements::statement-returns-in-If-clause-refused t c = IfRefused-weaker c.conditional.result _ _ (λ r h. as_heavy (run c.args.here c.args.tail) _ _ _ _ (ap core_stmt_of c.in-If.is ∙ if_tree _ _ _ _ _ c.deref-in-If.ensures) h) c.conditional.ensures.refused
