use Rattle.promises.proofs.EndedMachines.Whole.{flat_end}
use Rattle.promises.proofs.ended_machines.flat_runs_end_in_time.Goals as goal

pub returns : goal.returns
returns c = flat_end
