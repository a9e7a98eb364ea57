use Rattle.std.proofs.Common.{◌≡◌, ◌<◌, ℕ, slice_get, Some}
use Rattle.clock_machine.specs.declared.lines.program.Stage.{Stage}
use Rattle.clock_machine.specs.Lines.Stages.{work_in}
use Rattle.clock_machine.specs.Sizes.{FitsWork}
use Rattle.clock_machine.proofs.room.sizes_of.Given as goal

abbrev pub invariant-loop-stage : goal.invariant-loop-stage
invariant-loop-stage l = (i : ℕ) (it : Stage) → slice_get l.program.stages.items i ≡ Some it → i < l.stage-index → FitsWork l.sizes (work_in it)
