use Rattle.std.proofs.Common.{length, take}
use Rattle.unit_binding.proofs.Followed.{AreFollowed}
use Rattle.unit_binding.proofs.times.follow_all.Given as goal

abbrev pub invariant-loop-edge : goal.invariant-loop-edge
invariant-loop-edge l = AreFollowed (length l.initial.times) 4294967295 l.edges (take l.edge-index l.edges) l.times
