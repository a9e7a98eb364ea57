use Rattle.promises.proofs.CircuitPromise.Whole.{promise_kept}
use Rattle.promises.proofs.circuit_promise.source_circuits_keep_promise.Goals as goal

pub returns : goal.returns
returns c = promise_kept
