use Rattle.chain_link.proofs.StagePins.{fault_at}
use Rattle.chain_link.proofs.faults.first_fault.Goals as goal

pub returns-in-Some-clause-found : goal.returns-in-Some-clause-found
returns-in-Some-clause-found c =
    c.loop-k.invariant.found _ (fault_at c.args.stages.now c.loop-k.k c.index-stages-k.result c.loop-k.before c.in-Some.rule _ c.loop-k-test.true c.index-stages-k.is c.in-Some.ensures.found c.refusal_at.ensures)
