use Rattle.program_sizes.proofs.DeclaredObjects.Parameters.{parameters_few}
use Rattle.program_sizes.proofs.declared_objects.parameters_are_few.Goals as goal

pub returns : goal.returns
returns c = parameters_few
