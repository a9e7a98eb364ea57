use Rattle.compile_steps.proofs.BegunPrograms.Programs.{sound_begins}
use Rattle.compile_steps.proofs.begun_programs.sound_programs_begin.Goals as goal

pub returns : goal.returns
returns c = sound_begins
