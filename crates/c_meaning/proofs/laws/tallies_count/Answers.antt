use Rattle.c_meaning.proofs.Tallies.{tallies_count}
use Rattle.c_meaning.proofs.laws.tallies_count.Goals as goal

pub returns : goal.returns
returns c = tallies_count
