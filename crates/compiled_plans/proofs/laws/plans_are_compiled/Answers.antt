use Rattle.compiled_plans.proofs.Whole.{compiled}
use Rattle.compiled_plans.proofs.laws.plans_are_compiled.Goals as goal

pub returns : goal.returns
returns c = compiled
