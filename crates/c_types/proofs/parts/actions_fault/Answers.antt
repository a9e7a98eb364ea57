use Rattle.std.proofs.Common.{refl, map, false}
use Rattle.c_tree.specs.View.{action_of}
use Rattle.c_meaning.specs.Checks.Expressions.{expression_faults, expression_of, actions_faults}
use Rattle.c_names.proofs.DeclarationsLemmas.Least.{least_loop}
use Rattle.c_types.proofs.parts.actions_fault.Goals as goal

pub loop-action-preserved : goal.loop-action-preserved
loop-action-preserved c = least_loop (λ xs. actions_faults c.args.bodies.now c.args.names.now (map action_of xs)) c.args.actions.now c.loop-action.action-index c.action-item.result
    (expression_faults false c.args.bodies.now c.args.names.now (expression_of (action_of c.action-item.result)))
    _ _ _ _ c.loop-action-test.true c.action-item.is refl c.in_ok-action_fault.ensures c.lesser-worst.ensures c.loop-action.invariant
