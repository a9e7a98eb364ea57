use Rattle.chain_link.proofs.Queues.{queue_works}
use Rattle.chain_link.proofs.laws.queues_work.Goals as goal

pub returns : goal.returns
returns c = queue_works
