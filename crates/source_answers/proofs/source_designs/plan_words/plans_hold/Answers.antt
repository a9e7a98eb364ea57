use Rattle.source_answers.proofs.SourceDesigns.PlanWords.Whole.{plans_hold}
use Rattle.source_answers.proofs.source_designs.plan_words.plans_hold.Goals as goal

pub returns : goal.returns
returns c = plans_hold
