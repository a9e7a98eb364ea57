use Rattle.std.proofs.Common.{◌≡◌, length}
use Rattle.pieces.specs.Resolved.CoreView.{core_of}
use Rattle.c_elaborate.specs.Chains.{steps}
use Rattle.c_elaborate.proofs.chains.joined.Given as goal

abbrev pub invariant-loop-step : goal.invariant-loop-step
invariant-loop-step l = steps l.steps.items (core_of l.whole) ≡ steps l.fn.steps.items (core_of l.fn.part)

abbrev pub decreases-loop-step : goal.decreases-loop-step
decreases-loop-step l = length l.steps.items
