use Rattle.std.proofs.Common.{subst, arith}
use Rattle.std.proofs.lemmas.Option.{slice_get_within}
use Rattle.clock_machine.specs.Lines.Reads.{CoversAction}
use Rattle.clock_machine.proofs.LinesLemmas.Covering.{one_more, action_further}
use Rattle.clock_machine.proofs.lines.depths.deeper_actions.Goals as goal

pub loop-action-preserved : goal.loop-action-preserved
loop-action-preserved c =
    let inv = c.loop-action.invariant in (
      omega (arith, inv.0, c.deeper_action-depth.ensures.grows),
      one_more (CoversAction c.deeper_action-depth.result) c.args.actions.now c.loop-action.action-index c.action-item.result (λ k x is lt. action_further c.loop-action.depth c.deeper_action-depth.result x c.deeper_action-depth.ensures.grows (inv.1 k x is lt)) (subst (CoversAction c.deeper_action-depth.result) c.action-item.is c.deeper_action-depth.ensures.covers),
    )

pub returns-clause-covers : goal.returns-clause-covers
returns-clause-covers c = λ k x is. (let lt = slice_get_within c.args.actions.now k x is in c.loop-action.invariant.1 k x is (omega (arith, lt, c.loop-action-test.false)))
