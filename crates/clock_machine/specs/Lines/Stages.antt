-- The body of a stage.
use Rattle.clock_machine.specs.declared.lines.program.Stage.{Stage}
use Rattle.clock_machine.specs.declared.lines.program.Stage.TheVariants as stage
use Rattle.clock_machine.specs.declared.lines.program.Work.{Work}

abbrev pub work_in : Stage → Work
work_in (stage.Block work way) = work
work_in (stage.Loop work exit) = work
