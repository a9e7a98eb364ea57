use Rattle.datapath.proofs.Controller.{resets_always, waits, starts_first, loads_first, stays_inside}
use Rattle.datapath.proofs.LeavingBlocks.{leaves_blocks}
use Rattle.datapath.proofs.Loops.{stays_in_loops, leaves_loops}
use Rattle.datapath.proofs.Sequence.{sequences}
use Rattle.datapath.proofs.laws.controller_law.Goals as goal

pub returns : goal.returns
returns c = record {
  resets = resets_always;
  sequence = sequences;
  waits = waits;
  starts = starts_first;
  loads = loads_first;
  stays = stays_inside;
  leaves = leaves_blocks;
  stays_in_loops = stays_in_loops;
  leaves_loops = leaves_loops;
}
