use Rattle.std.proofs.Common.{◌≡◌, ◌+◌, ◌≤◌}
use Rattle.c_machine.specs.Sound.{Sound}
use Rattle.c_machine.specs.Shape.{Shaped}
use Rattle.c_machine.specs.Following.{keeps_following}
use Rattle.c_machine.specs.Waiting.Shown.{is_resting}
use Rattle.c_moves.specs.Machines.{configuration_of}
use Rattle.c_interpreter.proofs.passing.run.Given as goal

abbrev pub invariant-loop-alloc : goal.invariant-loop-alloc
invariant-loop-alloc l = record {
  total : l.machine.meter.left + l.machine.meter.passed ≡ l.fn.machine.meter.left + l.fn.machine.meter.passed;
  more : l.fn.machine.meter.passed ≤ l.machine.meter.passed;
  follows : keeps_following (configuration_of l.fn.machine) (configuration_of l.machine);
  sound : Sound (configuration_of l.machine);
  shaped : Shaped (configuration_of l.machine);
  resting : is_resting (configuration_of l.machine).control;
}

abbrev pub decreases-loop-alloc : goal.decreases-loop-alloc
decreases-loop-alloc l = l.machine.meter.left
