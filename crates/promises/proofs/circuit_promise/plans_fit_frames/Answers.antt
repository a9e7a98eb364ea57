use Rattle.promises.proofs.CircuitPromise.Frames.{frames_fit}
use Rattle.promises.proofs.circuit_promise.plans_fit_frames.Goals as goal

pub returns : goal.returns
returns c = frames_fit
