use Rattle.source_validity.proofs.FusedPrograms.Near.{constants_near}
use Rattle.source_validity.proofs.fused_programs.fused_constants_are_near.Goals as goal

pub returns : goal.returns
returns c = constants_near
