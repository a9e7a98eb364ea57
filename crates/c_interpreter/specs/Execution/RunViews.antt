-- What a run of the code shows, and what holds of it.
use Rattle.std.specs.Prelude.{◌≡◌}
use Rattle.c_tree.specs.View.{program_of}
use Rattle.c_meaning.specs.Checks.Limits.{file_objects}
use Rattle.c_meaning.specs.Declarations.{objects_of}
use Rattle.c_moves.specs.Machines.{configuration_of}
use Rattle.c_interpreter.specs.Execution.Progress.{Progress}
use Rattle.c_interpreter.specs.Execution.Runs.{Standing, IsRunOf, left_contents}
use Rattle.c_machine.specs.Sound.{Sound}
use Rattle.c_machine.specs.Shape.{Shaped}
use Rattle.c_interpreter.specs.declared.execution.run.Run.TheInside.{Inside}

abbrev pub standing_of : Inside → Standing
standing_of r = record {
  program = program_of r.checked.now.program;
  top = r.checked.now.top;
  file = objects_of r.declared.items;
  machine = configuration_of r.machine;
}

abbrev pub progress_of : Inside → Progress
progress_of r = record {
  begun = record { program = r.checked.now.program; top = r.checked.now.top; kept = r.kept; scalars = r.inputs.scalars; arrays = r.inputs.arrays };
  passed = r.machine.meter.passed;
  counts = r.machine.meter.counts;
  left = left_contents (standing_of r) r.kept;
}

-- The machine stands somewhere in the run.
pub record IsUnderWay (r : Inside) : Type 0 where
  pub run : IsRunOf (standing_of r) r.kept r.inputs.scalars r.inputs.arrays
  pub sound : Sound (configuration_of r.machine)
  pub shaped : Shaped (configuration_of r.machine)
  pub file : objects_of r.declared.items ≡ file_objects (program_of r.checked.now.program).items
