use Rattle.chain_link.proofs.Queues.{queue_resets}
use Rattle.chain_link.proofs.laws.queues_reset.Goals as goal

pub returns : goal.returns
returns c = queue_resets
