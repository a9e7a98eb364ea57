use Rattle.std.proofs.Common.{◌≡◌, ◌∙◌, rules}
use Rattle.c_machine.specs.Frames as f
use Rattle.c_machine.specs.Waiting.Shown.{step_of}
use Rattle.c_moves.specs.Machines.{configuration_of}
use Rattle.c_machine.proofs.Running.{moved-rest, moved-sound, moved-shaped, moved-meter, moved-less}
use Rattle.c_interpreter.proofs.step.run_on.Goals as goal

pub loop-machine-smaller : goal.loop-machine-smaller
loop-machine-smaller c =
    let now : (configuration_of c.loop-machine.machine).control ≡ f.next (step_of c.in-Going-None-default.step) = first_of (search rules, cc) in
    moved-less (step_of c.in-Going-None-default.step) (configuration_of c.loop-machine.machine) (configuration_of c.advance.new.machine) now c.in_ok-advance.ensures.ok

pub loop-machine-preserved : goal.loop-machine-preserved
loop-machine-preserved c =
    let now : (configuration_of c.loop-machine.machine).control ≡ f.next (step_of c.in-Going-None-default.step) = first_of (search rules, cc) in
    let m = configuration_of c.loop-machine.machine in
    let m1 = configuration_of c.advance.new.machine in
    let s = step_of c.in-Going-None-default.step in (
      λ left. moved-rest left s m m1 now c.loop-machine.invariant.1 c.in_ok-advance.ensures.ok ∙ c.loop-machine.invariant.0 left,
      moved-sound s m m1 now c.loop-machine.invariant.1 c.in_ok-advance.ensures.ok,
      moved-meter s m m1 c.in_ok-advance.ensures.ok ∙ c.loop-machine.invariant.2,
      moved-shaped s m m1 now c.loop-machine.invariant.3 c.in_ok-advance.ensures.ok,
    )
