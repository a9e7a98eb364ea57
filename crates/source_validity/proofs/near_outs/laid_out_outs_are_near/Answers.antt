use Rattle.source_validity.proofs.NearOuts.Whole.{laid_out_near}
use Rattle.source_validity.proofs.near_outs.laid_out_outs_are_near.Goals as goal

pub returns : goal.returns
returns c = laid_out_near
