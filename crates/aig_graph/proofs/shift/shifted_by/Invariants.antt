use Rattle.std.proofs.Common.{◌≡◌, ◌++◌, take, replicate}
use Rattle.aig_graph.proofs.shift.shifted_by.Given as goal

abbrev pub invariant-loop-i : goal.invariant-loop-i
invariant-loop-i l = l.bits.items ≡ take l.i (replicate l.count 0 ++ l.xs)
