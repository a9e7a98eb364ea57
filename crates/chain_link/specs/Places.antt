-- The value of a `Spot`.
use Rattle.chain_box.specs.StageEmbedding.Placing.{Place}
use Rattle.chain_link.specs.declared.placing.Spot.{Spot}

abbrev pub place_of : Spot → Place
place_of x = record { inputs = x.inputs.items; regs = x.regs; mems = x.mems; wires = x.wires }
