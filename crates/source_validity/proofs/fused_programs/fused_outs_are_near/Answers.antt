use Rattle.source_validity.proofs.FusedPrograms.Near.{outs_stay_near}
use Rattle.source_validity.proofs.fused_programs.fused_outs_are_near.Goals as goal

pub returns : goal.returns
returns c = outs_stay_near
