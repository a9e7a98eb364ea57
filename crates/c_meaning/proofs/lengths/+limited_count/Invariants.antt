use Rattle.std.proofs.Common.{length}
use Rattle.c_meaning.proofs.lengths.+limited_count.Given as goal

abbrev pub decreases-limited_count : goal.decreases-limited_count
decreases-limited_count l = length l.lengths.now
