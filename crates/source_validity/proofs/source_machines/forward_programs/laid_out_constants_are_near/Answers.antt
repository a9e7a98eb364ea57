use Rattle.source_validity.proofs.SourceMachines.ForwardPrograms.Whole.{constants_near}
use Rattle.source_validity.proofs.source_machines.forward_programs.laid_out_constants_are_near.Goals as goal

pub returns : goal.returns
returns c = constants_near
