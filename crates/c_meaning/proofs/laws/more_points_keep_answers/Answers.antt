use Rattle.c_meaning.proofs.MoreInRuns.{more_points_keep_answers}
use Rattle.c_meaning.proofs.laws.more_points_keep_answers.Goals as goal

pub returns : goal.returns
returns c = more_points_keep_answers
