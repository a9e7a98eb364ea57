use Rattle.cosim_levels.proofs.OneAnswer.{answered}
use Rattle.cosim_levels.proofs.c_box.starts_are_answered.Goals as goal

pub returns : goal.returns
returns c = answered
