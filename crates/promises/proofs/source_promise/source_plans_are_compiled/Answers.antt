use Rattle.promises.proofs.SourcePromise.Whole.{plans_compiled}
use Rattle.promises.proofs.source_promise.source_plans_are_compiled.Goals as goal

pub returns : goal.returns
returns c = plans_compiled
