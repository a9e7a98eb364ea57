use Rattle.std.proofs.Common.{length}
use Rattle.cosim_levels.proofs.pins.address.+row_size.Given as goal

abbrev pub decreases-row_size : goal.decreases-row_size
decreases-row_size l = length l.lengths.now
