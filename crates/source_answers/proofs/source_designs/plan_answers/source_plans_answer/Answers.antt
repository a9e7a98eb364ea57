use Rattle.source_answers.proofs.SourceDesigns.PlanAnswers.Whole.{plans_answer}
use Rattle.source_answers.proofs.source_designs.plan_answers.source_plans_answer.Goals as goal

pub returns : goal.returns
returns c = plans_answer
