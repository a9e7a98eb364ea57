use Rattle.std.proofs.Common.{◌≡◌, ◌++◌, length}
use Rattle.c_calls.specs.Called.{backwards}
use Rattle.c_calls.proofs.called.add_backwards.Given as goal

abbrev pub decreases-loop-last : goal.decreases-loop-last
decreases-loop-last l = length l.found.items

abbrev pub invariant-loop-last : goal.invariant-loop-last
invariant-loop-last l = l.calls.items ++ backwards l.found.items ≡ l.initial.calls.items ++ backwards l.initial.found.items
