use Rattle.program_sizes.proofs.ConvertedOperations.Numbered.{numbered_fewer}
use Rattle.program_sizes.proofs.converted_operations.numbered_operations_are_fewer.Goals as goal

pub returns : goal.returns
returns c = numbered_fewer
