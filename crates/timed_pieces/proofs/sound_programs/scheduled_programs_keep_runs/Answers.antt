use Rattle.timed_pieces.proofs.SoundPrograms.Whole.{kept_runs}
use Rattle.timed_pieces.proofs.sound_programs.scheduled_programs_keep_runs.Goals as goal

pub returns : goal.returns
returns c = kept_runs
