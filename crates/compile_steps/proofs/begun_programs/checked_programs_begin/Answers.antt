use Rattle.compile_steps.proofs.BegunPrograms.Programs.{checked_begins}
use Rattle.compile_steps.proofs.begun_programs.checked_programs_begin.Goals as goal

pub returns : goal.returns
returns c = checked_begins
