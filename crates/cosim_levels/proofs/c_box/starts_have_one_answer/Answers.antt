use Rattle.cosim_levels.proofs.OneAnswer.{one_answer}
use Rattle.cosim_levels.proofs.c_box.starts_have_one_answer.Goals as goal

pub returns : goal.returns
returns c = one_answer
