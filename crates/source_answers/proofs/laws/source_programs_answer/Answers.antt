use Rattle.source_answers.proofs.Whole.{source_answers}
use Rattle.source_answers.proofs.laws.source_programs_answer.Goals as goal

pub returns : goal.returns
returns c = source_answers
