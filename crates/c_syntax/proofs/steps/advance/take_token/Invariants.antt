use Rattle.std.proofs.Common.{◌≡◌, length}
use Rattle.c_syntax.specs.Steps.{next, first_open}
use Rattle.c_syntax.proofs.steps.advance.take_token.Given as goal

abbrev pub invariant-loop-goal : goal.invariant-loop-goal
invariant-loop-goal l = record { same : next l.stack l.spot l.sort ≡ next l.initial.stack l.spot l.sort; before : first_open l.stack ≡ first_open l.initial.stack }

abbrev pub decreases-loop-goal : goal.decreases-loop-goal
decreases-loop-goal l = length l.stack
