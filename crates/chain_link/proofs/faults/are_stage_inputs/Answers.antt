use Rattle.chain_link.proofs.StagePins.{inputs_iff}
use Rattle.chain_link.proofs.faults.are_stage_inputs.Goals as goal

pub returns : goal.returns
returns c = inputs_iff _ _ c.have_stage_inputs.ensures
