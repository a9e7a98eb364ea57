use Rattle.driven_circuits.proofs.Whole.{answers_shown}
use Rattle.driven_circuits.proofs.laws.agreeing_circuits_show_answers.Goals as goal

pub returns : goal.returns
returns c = answers_shown
