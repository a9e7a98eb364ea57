use Rattle.std.proofs.Common.{reverse}
use Rattle.c_macro.proofs.Suspending.{Underway, work_left}
use Rattle.c_macro.proofs.expansion.expand.Given as goal

abbrev pub invariant-loop-token : goal.invariant-loop-token
invariant-loop-token l = Underway l.macros l.fn.hidden l.word l.tokens l.fn.output l.hidden l.left (reverse l.suspended.items) l.output

abbrev pub decreases-loop-token : goal.decreases-loop-token
decreases-loop-token l = work_left l.output l.suspended.items
