use Rattle.source_validity.proofs.FusedPrograms.Whole.{stay_forward}
use Rattle.source_validity.proofs.fused_programs.fused_programs_are_forward.Goals as goal

pub returns : goal.returns
returns c = stay_forward
