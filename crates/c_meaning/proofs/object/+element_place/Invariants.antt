use Rattle.std.proofs.Common.{length}
use Rattle.c_meaning.proofs.object.+element_place.Given as goal

abbrev pub decreases-element_place : goal.decreases-element_place
decreases-element_place l = length l.lengths.now
