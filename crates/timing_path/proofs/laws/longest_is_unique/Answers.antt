use Rattle.timing_path.proofs.Single as single
use Rattle.timing_path.proofs.laws.longest_is_unique.Goals as goal

pub returns : goal.returns
returns c = single.longest_is_unique
