use Rattle.aig_blast.proofs.Cycles.{finished_follows}
use Rattle.aig_blast.proofs.laws.finished_graphs_follow.Goals as goal

pub returns : goal.returns
returns c = finished_follows
