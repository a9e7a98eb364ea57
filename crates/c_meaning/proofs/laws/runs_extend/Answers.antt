use Rattle.c_meaning.proofs.MoreInRuns.{runs_extend}
use Rattle.c_meaning.proofs.laws.runs_extend.Goals as goal

pub returns : goal.returns
returns c = runs_extend
