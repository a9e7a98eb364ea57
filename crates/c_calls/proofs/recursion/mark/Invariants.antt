use Rattle.std.proofs.Common.{take}
use Rattle.c_calls.specs.Linked.{is_among, Spreads}
use Rattle.c_calls.proofs.recursion.mark.Given as goal

abbrev pub invariant-loop-number : goal.invariant-loop-number
invariant-loop-number l = Spreads (λ f. is_among f (take l.number-index l.these)) l.initial.marks l.initial.noted.items l.marks l.noted.items
