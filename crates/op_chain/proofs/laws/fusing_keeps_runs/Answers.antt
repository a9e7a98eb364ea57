use Rattle.op_chain.proofs.Kept.{runs_kept}
use Rattle.op_chain.proofs.laws.fusing_keeps_runs.Goals as goal

pub returns : goal.returns
returns c = runs_kept
