use Rattle.source_validity.proofs.NearOuts.Whole.{sources_near}
use Rattle.source_validity.proofs.near_outs.sources_have_near_outs.Goals as goal

pub returns : goal.returns
returns c = sources_near
