use Rattle.compile_steps.proofs.LongRuns.Whole.{runs_long}
use Rattle.compile_steps.proofs.long_runs.ended_runs_are_long.Goals as goal

pub returns : goal.returns
returns c = runs_long
