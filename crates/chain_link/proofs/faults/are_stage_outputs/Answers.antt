use Rattle.chain_link.proofs.StagePins.{outputs_iff}
use Rattle.chain_link.proofs.faults.are_stage_outputs.Goals as goal

pub returns : goal.returns
returns c = outputs_iff _ _ c.have_stage_outputs.ensures
