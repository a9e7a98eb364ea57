use Rattle.std.proofs.Common.{◌≡◌, ◌++◌, ◌+◌, take, drop}
use Rattle.verilog_cycle.proofs.run.put.Given as goal

abbrev pub invariant-loop-k : goal.invariant-loop-k
invariant-loop-k l = l.cells ≡ take l.at l.fn.cells ++ (take l.k l.words ++ drop (l.at + l.k) l.fn.cells)
