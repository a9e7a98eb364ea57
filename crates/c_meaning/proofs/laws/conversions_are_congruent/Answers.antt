use Rattle.c_meaning.proofs.Conversions.{conversions_are_congruent}
use Rattle.c_meaning.proofs.laws.conversions_are_congruent.Goals as goal

pub returns : goal.returns
returns c = conversions_are_congruent
