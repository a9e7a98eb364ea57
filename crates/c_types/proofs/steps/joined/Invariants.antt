use Rattle.std.proofs.Common.{◌≡◌, length}
use Rattle.c_types.specs.Chains.{found, steps}
use Rattle.c_types.proofs.steps.joined.Given as goal

abbrev pub invariant-loop-step : goal.invariant-loop-step
invariant-loop-step l = steps l.steps.items (found l.whole.fault l.whole.accesses) ≡ steps l.fn.steps.items (found l.fn.part.fault l.fn.part.accesses)

abbrev pub decreases-loop-step : goal.decreases-loop-step
decreases-loop-step l = length l.steps.items
