use Rattle.datapath.proofs.Reducing.{reduced}
use Rattle.datapath.proofs.laws.reduced_law.Goals as goal

pub returns : goal.returns
returns c = reduced
