use Rattle.program_sizes.proofs.DeclaredVariables.Whole.{variables_counted}
use Rattle.program_sizes.proofs.declared_variables.variables_are_counted.Goals as goal

pub returns : goal.returns
returns c = variables_counted
