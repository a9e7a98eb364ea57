-- Runs as they are held: at their beginning, and behind more points.
use Rattle.std.proofs.Common.{◌≡◌, List}
use Rattle.std.specs.Borrow.{Bor}
use Rattle.c_tree.specs.declared.object.Object.{Object as Declared}
use Rattle.c_meaning.specs.Checks.Limits.{file_objects}
use Rattle.c_moves.specs.declared.machine.Machine.{Machine}
use Rattle.c_interpreter.specs.declared.execution.run.Run.TheInside.{Inside}
use Rattle.c_meaning.specs.Declarations.{objects_of}
use Rattle.c_moves.specs.Machines.{configuration_of}
use Rattle.c_machine.specs.Sound.{Sound}
use Rattle.c_machine.specs.Shape.{Shaped}
use Rattle.c_machine.specs.Following.{keeps_following}
use Rattle.c_interpreter.specs.Execution.Runs.{top_function, is_begun}
use Rattle.c_interpreter.specs.Execution.RunViews.{standing_of, IsUnderWay}
use Rattle.c_interpreter.proofs.ExecutionLemmas.Runs.{begun-sliced, begun-run, begun-sound, begun-shaped, gone-run}

pub begun-under-way : (r : Inside) (ds : List (Bor Declared)) → ds ≡ r.declared.items → objects_of r.declared.items ≡ file_objects (standing_of r).program.items
    → is_begun (standing_of r).program.items (top_function (standing_of r).program (standing_of r).top) (objects_of ds) r.kept r.inputs.scalars r.inputs.arrays (configuration_of r.machine) → IsUnderWay r
begun-under-way r ds same file h =
    let top = top_function (standing_of r).program (standing_of r).top in
    let begun = begun-sliced (standing_of r).program.items top r.declared.items ds r.kept r.inputs.scalars r.inputs.arrays (configuration_of r.machine) same h in
    record {
      run = begun-run (standing_of r) r.kept r.inputs.scalars r.inputs.arrays begun file;
      sound = begun-sound (standing_of r).program.items top (standing_of r).file r.kept r.inputs.scalars r.inputs.arrays (configuration_of r.machine) begun;
      shaped = begun-shaped (standing_of r).program.items top (standing_of r).file r.kept r.inputs.scalars r.inputs.arrays (configuration_of r.machine) begun;
      file = file;
    }

pub gone-under-way : (r : Inside) (machine : Machine) → keeps_following (configuration_of r.machine) (configuration_of machine) → Sound (configuration_of machine) → Shaped (configuration_of machine) → IsUnderWay r → IsUnderWay (record r { machine = machine })
gone-under-way r machine following sound shaped h = record {
  run = gone-run (standing_of r) (configuration_of machine) following r.kept r.inputs.scalars r.inputs.arrays h.run;
  sound = sound;
  shaped = shaped;
  file = h.file;
}
