use Rattle.source_answers.proofs.CompiledAnswers.Whole.{answer}
use Rattle.source_answers.proofs.compiled_answers.compiled_programs_answer.Goals as goal

pub returns : goal.returns
returns c = answer
