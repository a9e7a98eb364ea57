use Rattle.std.proofs.Common.{length}
use Rattle.ir_core.proofs.address.+addresses.Given as goal

abbrev pub decreases-addresses : goal.decreases-addresses
decreases-addresses l = length l.lengths.now
