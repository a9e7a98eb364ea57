use Rattle.source_validity.proofs.SourceMachines.ForwardPrograms.Whole.{valid_forward}
use Rattle.source_validity.proofs.source_machines.forward_programs.valid_programs_are_forward.Goals as goal

pub returns : goal.returns
returns c = valid_forward
