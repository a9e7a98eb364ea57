use Rattle.timed_pieces.proofs.FlatRuns.Whole.{flat_runs}
use Rattle.timed_pieces.proofs.flat_runs.flat_programs_keep_runs.Goals as goal

pub returns : goal.returns
returns c = flat_runs
