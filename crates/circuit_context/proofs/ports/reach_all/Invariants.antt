use Rattle.std.proofs.Common.{take}
use Rattle.circuit_context.specs.Counting.{reached_in, Reaches}
use Rattle.circuit_context.proofs.ports.reach_all.Given as goal

abbrev pub invariant-loop-number : goal.invariant-loop-number
invariant-loop-number l = Reaches l.initial.counts.items l.counts.items (λ a n. reached_in a n (take l.number l.ops) l.row)
