use Rattle.passes.proofs.DistinctOperations.Blocks.{block_distinct}
use Rattle.passes.proofs.distinct_operations.numbered_blocks_have_no_twins.Goals as goal

pub returns : goal.returns
returns c = block_distinct
