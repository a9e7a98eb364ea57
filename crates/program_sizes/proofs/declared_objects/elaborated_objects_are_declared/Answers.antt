use Rattle.program_sizes.proofs.DeclaredObjects.Counting.{objects_declared}
use Rattle.program_sizes.proofs.declared_objects.elaborated_objects_are_declared.Goals as goal

pub returns : goal.returns
returns c = objects_declared
