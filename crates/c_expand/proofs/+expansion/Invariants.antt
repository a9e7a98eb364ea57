use Rattle.std.proofs.Common.{◌≤◌, [], map, drop, length}
use Rattle.std.specs.Option.{option_map}
use Rattle.pieces.specs.declared.resolved.expression.CoreExpr.{size-CoreExpr}
use Rattle.pieces.specs.Resolved.Core.{row, argument_row, stmt_row}
use Rattle.pieces.specs.Resolved.CoreView.{core_of, core_argument_of, core_stmt_of, core_action_of}
use Rattle.pieces.specs.View.{pure_of}
use Rattle.piece_making.specs.Stocks.{stock, state_of}
use Rattle.c_expand.specs.Callees.{callee_of, call_at, given_of}
use Rattle.c_expand.specs.Chains.{links}
use Rattle.c_expand.specs.Expressions.{expression, operands, arguments}
use Rattle.c_expand.specs.Statements.{statements, actions, filled}
use Rattle.c_expand.proofs.Leading.{Leads}
use Rattle.c_expand.proofs.Chaining.{chained}
use Rattle.c_expand.proofs.+expansion.Given as goal

abbrev pub decreases-expressions::expression : goal.decreases-expressions::expression
decreases-expressions::expression l = l.here.depth

abbrev pub decreases-expressions::innermost : goal.decreases-expressions::innermost
decreases-expressions::innermost l = l.here.depth

abbrev pub decreases-expressions::joined : goal.decreases-expressions::joined
decreases-expressions::joined l = l.here.depth

abbrev pub decreases-expressions::element_of : goal.decreases-expressions::element_of
decreases-expressions::element_of l = l.here.depth

abbrev pub decreases-expressions::assignment : goal.decreases-expressions::assignment
decreases-expressions::assignment l = l.here.depth

abbrev pub decreases-expressions::step_by_one : goal.decreases-expressions::step_by_one
decreases-expressions::step_by_one l = l.here.depth

abbrev pub decreases-expressions::operands : goal.decreases-expressions::operands
decreases-expressions::operands l = l.here.depth

abbrev pub decreases-operators::linked : goal.decreases-operators::linked
decreases-operators::linked l = l.here.depth

abbrev pub decreases-operators::operated : goal.decreases-operators::operated
decreases-operators::operated l = l.here.depth

abbrev pub decreases-operators::operated_in_place : goal.decreases-operators::operated_in_place
decreases-operators::operated_in_place l = l.here.depth

abbrev pub decreases-operators::chosen_in_place : goal.decreases-operators::chosen_in_place
decreases-operators::chosen_in_place l = l.here.depth

abbrev pub decreases-operators::forked : goal.decreases-operators::forked
decreases-operators::forked l = l.here.depth

abbrev pub decreases-operators::truth_arm : goal.decreases-operators::truth_arm
decreases-operators::truth_arm l = l.here.depth

abbrev pub decreases-operators::arm : goal.decreases-operators::arm
decreases-operators::arm l = l.here.depth

abbrev pub decreases-operators::chosen : goal.decreases-operators::chosen
decreases-operators::chosen l = l.here.depth

abbrev pub decreases-operators::selected : goal.decreases-operators::selected
decreases-operators::selected l = l.here.depth

abbrev pub decreases-statements::conditional : goal.decreases-statements::conditional
decreases-statements::conditional l = l.here.depth

abbrev pub decreases-statements::block : goal.decreases-statements::block
decreases-statements::block l = l.here.depth

abbrev pub decreases-statements::statement : goal.decreases-statements::statement
decreases-statements::statement l = l.here.depth

abbrev pub decreases-statements::branch : goal.decreases-statements::branch
decreases-statements::branch l = l.here.depth

abbrev pub decreases-statements::second_branch : goal.decreases-statements::second_branch
decreases-statements::second_branch l = l.here.depth

abbrev pub decreases-statements::switch : goal.decreases-statements::switch
decreases-statements::switch l = l.here.depth

abbrev pub decreases-statements::repeat : goal.decreases-statements::repeat
decreases-statements::repeat l = l.here.depth

abbrev pub decreases-statements::tested : goal.decreases-statements::tested
decreases-statements::tested l = l.here.depth

abbrev pub decreases-statements::loop_body : goal.decreases-statements::loop_body
decreases-statements::loop_body l = l.here.depth

abbrev pub decreases-statements::step_of : goal.decreases-statements::step_of
decreases-statements::step_of l = l.here.depth

abbrev pub decreases-statements::stepped : goal.decreases-statements::stepped
decreases-statements::stepped l = l.here.depth

abbrev pub decreases-statements::returned : goal.decreases-statements::returned
decreases-statements::returned l = l.here.depth

abbrev pub decreases-statements::set_result : goal.decreases-statements::set_result
decreases-statements::set_result l = l.here.depth

abbrev pub decreases-statements::actions : goal.decreases-statements::actions
decreases-statements::actions l = l.here.depth

abbrev pub decreases-statements::action : goal.decreases-statements::action
decreases-statements::action l = l.here.depth

abbrev pub decreases-statements::changed : goal.decreases-statements::changed
decreases-statements::changed l = l.here.depth

abbrev pub decreases-statements::valued : goal.decreases-statements::valued
decreases-statements::valued l = l.here.depth

abbrev pub decreases-declarations::declare : goal.decreases-declarations::declare
decreases-declarations::declare l = l.here.depth

abbrev pub decreases-declarations::declare_scalar : goal.decreases-declarations::declare_scalar
decreases-declarations::declare_scalar l = l.here.depth

abbrev pub decreases-declarations::initialise : goal.decreases-declarations::initialise
decreases-declarations::initialise l = l.here.depth

abbrev pub decreases-declarations::fill : goal.decreases-declarations::fill
decreases-declarations::fill l = l.here.depth

abbrev pub decreases-declarations::item_value : goal.decreases-declarations::item_value
decreases-declarations::item_value l = l.here.depth

abbrev pub decreases-calls::called : goal.decreases-calls::called
decreases-calls::called l = l.here.depth

abbrev pub decreases-calls::opened : goal.decreases-calls::opened
decreases-calls::opened l = l.here.depth

abbrev pub decreases-calls::run_through : goal.decreases-calls::run_through
decreases-calls::run_through l = l.here.depth

abbrev pub decreases-calls::arguments : goal.decreases-calls::arguments
decreases-calls::arguments l = l.here.depth

abbrev pub decreases-calls::argument : goal.decreases-calls::argument
decreases-calls::argument l = l.here.depth

abbrev pub decreases-expressions::expression-chain : goal.decreases-expressions::expression-chain
decreases-expressions::expression-chain l = size-CoreExpr l.part

abbrev pub decreases-expressions::joined-loop-step : goal.decreases-expressions::joined-loop-step
decreases-expressions::joined-loop-step l = length l.steps.items

abbrev pub invariant-expressions::expression-chain : goal.invariant-expressions::expression-chain
invariant-expressions::expression-chain l = record {
  no_deeper : size-CoreExpr l.part ≤ size-CoreExpr l.fn.e;
  leads : Leads (stock l.initial.work) (stock l.work) (chained (callee_of l.here) (call_at l.here) l.steps.items (expression (callee_of l.here) (call_at l.here) (core_of l.part) (state_of (stock l.work)))) (expression (callee_of l.here) (call_at l.here) (core_of l.fn.e) (state_of (stock l.initial.work)));
}

abbrev pub invariant-expressions::joined-loop-step : goal.invariant-expressions::joined-loop-step
invariant-expressions::joined-loop-step l =
    Leads (stock l.initial.work) (stock l.work) (links (callee_of l.here) (call_at l.here) l.steps.items (pure_of l.part) (state_of (stock l.work)))
    (links (callee_of l.here) (call_at l.here) l.fn.steps.items (pure_of l.fn.first) (state_of (stock l.initial.work)))

abbrev pub invariant-expressions::operands-loop-i : goal.invariant-expressions::operands-loop-i
invariant-expressions::operands-loop-i l =
    Leads (stock l.initial.work) (stock l.work) (operands (callee_of l.here) (call_at l.here) (row (map core_of (drop l.i l.es))) l.behind (map pure_of l.values.items) (state_of (stock l.work)))
    (operands (callee_of l.here) (call_at l.here) (row (map core_of l.es)) l.behind [] (state_of (stock l.initial.work)))

abbrev pub invariant-calls::arguments-loop-i : goal.invariant-calls::arguments-loop-i
invariant-calls::arguments-loop-i l =
    Leads (stock l.initial.work) (stock l.work) (arguments (callee_of l.here) (call_at l.here) (argument_row (map core_argument_of (drop l.i l.args))) (map given_of l.all.items) (state_of (stock l.work)))
    (arguments (callee_of l.here) (call_at l.here) (argument_row (map core_argument_of l.args)) [] (state_of (stock l.initial.work)))

abbrev pub invariant-statements::block-loop-i : goal.invariant-statements::block-loop-i
invariant-statements::block-loop-i l =
    Leads (stock l.initial.work) (stock l.work) (statements (callee_of l.here) (call_at l.here) (stmt_row (map core_stmt_of (drop l.i l.body))) l.tail (state_of (stock l.work)))
    (statements (callee_of l.here) (call_at l.here) (stmt_row (map core_stmt_of l.body)) l.tail (state_of (stock l.initial.work)))

abbrev pub invariant-statements::actions-loop-one : goal.invariant-statements::actions-loop-one
invariant-statements::actions-loop-one l =
    Leads (stock l.initial.work) (stock l.work) (actions (callee_of l.here) (call_at l.here) (map core_action_of (drop l.one-index l.list)) (state_of (stock l.work)))
    (actions (callee_of l.here) (call_at l.here) (map core_action_of l.list) (state_of (stock l.initial.work)))

abbrev pub invariant-declarations::fill-loop-i : goal.invariant-declarations::fill-loop-i
invariant-declarations::fill-loop-i l =
    Leads (stock l.initial.work) (stock l.work) (filled (callee_of l.here) (call_at l.here) l.array l.lengths l.i (map (option_map core_of) (drop l.i l.items)) (state_of (stock l.work)))
    (filled (callee_of l.here) (call_at l.here) l.array l.lengths 0 (map (option_map core_of) l.items) (state_of (stock l.initial.work)))
