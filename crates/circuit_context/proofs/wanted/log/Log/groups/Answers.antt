use Rattle.circuit_context.proofs.WantedLemmas.Grouping.{grouped_more}
use Rattle.circuit_context.proofs.wanted.log.Log.groups.Goals as goal

pub loop-push-preserved : goal.loop-push-preserved
loop-push-preserved c = record {
  paired = c.in_ok-add.ensures.paired;
  given = λ t. grouped_more t c.deref-push-items.result.now c.loop-push.push-index _ _ _ c.loop-push-test.true (c.loop-push.invariant.given t) (c.in_ok-add.ensures.given t);
}
