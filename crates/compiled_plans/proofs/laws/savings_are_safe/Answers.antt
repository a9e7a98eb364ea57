use Rattle.compiled_plans.proofs.Whole.{savings_safe}
use Rattle.compiled_plans.proofs.laws.savings_are_safe.Goals as goal

pub returns : goal.returns
returns c = savings_safe
