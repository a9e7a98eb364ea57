use Rattle.source_validity.proofs.AcceptedPrograms.Whole.{accepted_valid}
use Rattle.source_validity.proofs.accepted_programs.accepted_sources_compile_to_valid.Goals as goal

pub returns : goal.returns
returns c = accepted_valid
