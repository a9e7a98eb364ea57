use Rattle.program_sizes.proofs.CountedOperations.Trees.{lowered_counted}
use Rattle.program_sizes.proofs.counted_operations.lowered_operations_are_counted.Goals as goal

pub returns : goal.returns
returns c = lowered_counted
