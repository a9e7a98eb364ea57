use Rattle.std.proofs.Common.{take}
use Rattle.c_calls.specs.Linked.{calls_one, Spreads}
use Rattle.c_calls.proofs.recursion.spread.Given as goal

abbrev pub invariant-loop-number : goal.invariant-loop-number
invariant-loop-number l = Spreads (λ f. calls_one l.rows f (take l.number-index l.front)) l.initial.marks l.initial.noted.items l.marks l.noted.items
