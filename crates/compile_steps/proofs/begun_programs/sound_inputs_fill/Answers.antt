use Rattle.compile_steps.proofs.BegunPrograms.Programs.{sound_inputs}
use Rattle.compile_steps.proofs.begun_programs.sound_inputs_fill.Goals as goal

pub returns : goal.returns
returns c = sound_inputs
