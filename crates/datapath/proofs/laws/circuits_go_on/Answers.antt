use Rattle.datapath.proofs.Evaluating.{first_after, goes_on}
use Rattle.datapath.proofs.laws.circuits_go_on.Goals as goal

pub returns : goal.returns
returns c = λ p x pins. (first_after p x pins, goes_on p x pins)
