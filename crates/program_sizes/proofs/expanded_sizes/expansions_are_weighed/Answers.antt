use Rattle.program_sizes.proofs.ExpandedSizes.Whole.{expansions_weighed}
use Rattle.program_sizes.proofs.expanded_sizes.expansions_are_weighed.Goals as goal

pub returns : goal.returns
returns c = expansions_weighed
