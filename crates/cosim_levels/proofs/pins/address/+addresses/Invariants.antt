use Rattle.std.proofs.Common.{length}
use Rattle.cosim_levels.proofs.pins.address.+addresses.Given as goal

abbrev pub decreases-addresses : goal.decreases-addresses
decreases-addresses l = length l.lengths.now
