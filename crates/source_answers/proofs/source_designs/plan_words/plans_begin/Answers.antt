use Rattle.source_answers.proofs.SourceDesigns.PlanWords.Whole.{plans_begin}
use Rattle.source_answers.proofs.source_designs.plan_words.plans_begin.Goals as goal

pub returns : goal.returns
returns c = plans_begin
