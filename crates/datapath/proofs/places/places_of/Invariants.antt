use Rattle.std.proofs.Common.{take}
use Rattle.datapath.specs.Tables.{ArePlaces}
use Rattle.datapath.proofs.places.places_of.Given as goal

abbrev pub invariant-loop-row : goal.invariant-loop-row
invariant-loop-row l = ArePlaces (take l.row-index l.held) l.places
