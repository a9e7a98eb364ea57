use Rattle.program_sizes.proofs.ConvertedOperations.Converted.{converted_bounded}
use Rattle.program_sizes.proofs.converted_operations.converted_operations_are_bounded.Goals as goal

pub returns : goal.returns
returns c = converted_bounded
