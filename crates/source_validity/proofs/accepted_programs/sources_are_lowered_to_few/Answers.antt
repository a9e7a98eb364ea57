use Rattle.source_validity.proofs.AcceptedPrograms.Sizes.{lowered_to_few}
use Rattle.source_validity.proofs.accepted_programs.sources_are_lowered_to_few.Goals as goal

pub returns : goal.returns
returns c = lowered_to_few
