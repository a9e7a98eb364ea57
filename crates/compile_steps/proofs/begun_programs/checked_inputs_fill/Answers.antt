use Rattle.compile_steps.proofs.BegunPrograms.Programs.{checked_inputs}
use Rattle.compile_steps.proofs.begun_programs.checked_inputs_fill.Goals as goal

pub returns : goal.returns
returns c = checked_inputs
