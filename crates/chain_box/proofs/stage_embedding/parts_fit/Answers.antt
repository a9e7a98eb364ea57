use Rattle.chain_box.proofs.Embedding.{parts_fit}
use Rattle.chain_box.proofs.stage_embedding.parts_fit.Goals as goal

pub returns : goal.returns
returns c = parts_fit
