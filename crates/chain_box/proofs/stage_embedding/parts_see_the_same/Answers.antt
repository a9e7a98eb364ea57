use Rattle.chain_box.proofs.Embedding.{sees}
use Rattle.chain_box.proofs.stage_embedding.parts_see_the_same.Goals as goal

pub returns : goal.returns
returns c = λ d h before after p fit place are s t all holds. sees d h before after p fit place are s t all holds
