use Rattle.source_validity.proofs.FusedPrograms.Whole.{stay_small}
use Rattle.source_validity.proofs.fused_programs.fused_programs_are_small.Goals as goal

pub returns : goal.returns
returns c = stay_small
