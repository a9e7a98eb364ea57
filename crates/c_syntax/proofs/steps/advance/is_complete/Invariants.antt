use Rattle.std.proofs.Common.{◌≡◌, length}
use Rattle.c_syntax.specs.Steps.{all_optional}
use Rattle.c_syntax.proofs.steps.advance.is_complete.Given as goal

abbrev pub invariant-loop-goal : goal.invariant-loop-goal
invariant-loop-goal l = all_optional l.stack ≡ all_optional l.initial.stack

abbrev pub decreases-loop-goal : goal.decreases-loop-goal
decreases-loop-goal l = length l.stack
