use Rattle.promises.proofs.DesignPromise.Whole.{promise_kept}
use Rattle.promises.proofs.design_promise.designs_keep_promise.Goals as goal

pub returns : goal.returns
returns c = promise_kept
