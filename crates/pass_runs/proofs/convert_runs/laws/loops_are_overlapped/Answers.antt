use Rattle.pass_runs.proofs.ConvertRuns.Forks.{loops}
use Rattle.pass_runs.proofs.convert_runs.laws.loops_are_overlapped.Goals as goal

pub returns : goal.returns
returns c = loops
