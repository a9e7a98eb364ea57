use Rattle.timed_pieces.proofs.ScheduleRuns.Programs.{scheduled_well}
use Rattle.timed_pieces.proofs.schedule_runs.scheduled_is_well_timed.Goals as goal

pub returns : goal.returns
returns c = scheduled_well
