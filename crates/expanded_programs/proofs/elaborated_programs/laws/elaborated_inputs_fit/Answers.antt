use Rattle.expanded_programs.proofs.ElaboratedPrograms.Inputs.{inputs_there}
use Rattle.expanded_programs.proofs.elaborated_programs.laws.elaborated_inputs_fit.Goals as goal

pub returns : goal.returns
returns c = inputs_there
