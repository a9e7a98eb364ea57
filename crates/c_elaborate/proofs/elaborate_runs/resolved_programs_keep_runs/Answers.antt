use Rattle.c_elaborate.proofs.ElaborateRuns.Runs.{runs_kept}
use Rattle.c_elaborate.proofs.elaborate_runs.resolved_programs_keep_runs.Goals as goal

pub returns : goal.returns
returns c = runs_kept
