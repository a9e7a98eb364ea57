use Rattle.program_sizes.proofs.ExpandedSizes.Whole.{expansions_small}
use Rattle.program_sizes.proofs.expanded_sizes.expansions_are_small.Goals as goal

pub returns : goal.returns
returns c = expansions_small
