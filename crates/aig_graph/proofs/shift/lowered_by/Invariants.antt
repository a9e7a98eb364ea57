use Rattle.std.proofs.Common.{◌≡◌, ◌++◌, length, take, drop, replicate}
use Rattle.aig_graph.proofs.shift.lowered_by.Given as goal

abbrev pub invariant-loop-i : goal.invariant-loop-i
invariant-loop-i l = l.bits.items ≡ take l.i (drop l.count l.xs ++ replicate (length l.xs) 0)
