use Rattle.timed_pieces.proofs.ScheduleRuns.Programs.{scheduled_keeps}
use Rattle.timed_pieces.proofs.schedule_runs.scheduled_keeps_runs.Goals as goal

pub returns : goal.returns
returns c = scheduled_keeps
