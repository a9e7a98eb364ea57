use Rattle.program_sizes.proofs.CountedOperations.Weights.{counted_few}
use Rattle.program_sizes.proofs.counted_operations.counted_operations_are_few.Goals as goal

pub returns : goal.returns
returns c = counted_few
