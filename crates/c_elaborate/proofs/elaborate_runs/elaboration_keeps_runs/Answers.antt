use Rattle.c_elaborate.proofs.ElaborateRuns.FaultlessPrograms.{elaboration_kept}
use Rattle.c_elaborate.proofs.elaborate_runs.elaboration_keeps_runs.Goals as goal

pub returns : goal.returns
returns c = elaboration_kept
