use Rattle.driven_circuits.proofs.Whole.{no_difference}
use Rattle.driven_circuits.proofs.laws.agreeing_circuits_do_not_differ.Goals as goal

pub returns : goal.returns
returns c = no_difference
