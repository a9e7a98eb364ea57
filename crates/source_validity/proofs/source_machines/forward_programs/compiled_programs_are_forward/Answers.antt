use Rattle.source_validity.proofs.SourceMachines.ForwardPrograms.Whole.{compiled_forward}
use Rattle.source_validity.proofs.source_machines.forward_programs.compiled_programs_are_forward.Goals as goal

pub returns : goal.returns
returns c = compiled_forward
