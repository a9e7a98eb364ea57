use Rattle.std.proofs.Common.{◌≡◌, ◌++◌, ◌≤◌, length, drop, reverse}
use Rattle.c_syntax.proofs.steps.goal.Stack.put.Given as goal

abbrev pub invariant-loop-i : goal.invariant-loop-i
invariant-loop-i l = record { within : l.i ≤ length l.goals; put : reverse l.self-inside.goals.items ≡ drop l.i l.goals ++ reverse l.initial.self-inside.goals.items }

abbrev pub decreases-loop-i : goal.decreases-loop-i
decreases-loop-i l = l.i
