use Rattle.std.proofs.Common.{◌≡◌, ℕ}
use Rattle.c_machine.specs.Rest.{rest_of}
use Rattle.c_machine.specs.Sound.{Sound}
use Rattle.c_machine.specs.Shape.{Shaped}
use Rattle.c_moves.specs.Machines.{configuration_of}
use Rattle.c_machine.proofs.Weights.{weight}
use Rattle.c_interpreter.proofs.step.run_on.Given as goal

abbrev pub invariant-loop-machine : goal.invariant-loop-machine
invariant-loop-machine l =
    ((left : ℕ) → rest_of left (configuration_of l.machine) ≡ rest_of left (configuration_of l.initial.machine))
    × Sound (configuration_of l.machine)
    × (l.machine.meter ≡ l.initial.machine.meter)
    × Shaped (configuration_of l.machine)

abbrev pub decreases-loop-machine : goal.decreases-loop-machine
decreases-loop-machine l = weight (configuration_of l.machine)
