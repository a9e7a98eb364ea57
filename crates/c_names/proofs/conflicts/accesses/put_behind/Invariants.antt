use Rattle.std.proofs.Common.{◌≡◌, ◌++◌, deque_len}
use Rattle.c_names.proofs.conflicts.accesses.put_behind.Given as goal

abbrev pub decreases-loop-access : goal.decreases-loop-access
decreases-loop-access l = deque_len l.listed

abbrev pub invariant-loop-access : goal.invariant-loop-access
invariant-loop-access l = l.all ++ l.listed.items ≡ l.fn.these ++ l.fn.those
