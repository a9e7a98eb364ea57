use Rattle.std.proofs.Common.{◌≡◌, length}
use Rattle.c_machine.specs.Waiting.Chains.{around}
use Rattle.c_machine.proofs.waiting.chain.around.Given as goal

abbrev pub invariant-loop-operator : goal.invariant-loop-operator
invariant-loop-operator l = around l.operators.items l.whole ≡ around l.fn.operators.items l.fn.kind

abbrev pub decreases-loop-operator : goal.decreases-loop-operator
decreases-loop-operator l = length l.operators.items
