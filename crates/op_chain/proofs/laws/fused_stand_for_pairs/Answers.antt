use Rattle.op_chain.proofs.StandingPairs.{fused_stand}
use Rattle.op_chain.proofs.laws.fused_stand_for_pairs.Goals as goal

pub returns : goal.returns
returns c = fused_stand
