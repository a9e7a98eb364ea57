use Rattle.datapath.proofs.BlockSteps.{blocks_begin, blocks_step}
use Rattle.datapath.proofs.LastCycles.{blocks_leave}
use Rattle.datapath.proofs.laws.block_law.Goals as goal

pub returns : goal.returns
returns c = record { begins = blocks_begin; steps = blocks_step; leaves = blocks_leave }
