use Rattle.promises.proofs.SourcePromise.Whole.{sources_kept}
use Rattle.promises.proofs.source_promise.sources_keep_promise.Goals as goal

pub returns : goal.returns
returns c = sources_kept
