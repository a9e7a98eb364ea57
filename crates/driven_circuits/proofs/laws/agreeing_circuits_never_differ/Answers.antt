use Rattle.driven_circuits.proofs.Whole.{never_different}
use Rattle.driven_circuits.proofs.laws.agreeing_circuits_never_differ.Goals as goal

pub returns : goal.returns
returns c = never_different
