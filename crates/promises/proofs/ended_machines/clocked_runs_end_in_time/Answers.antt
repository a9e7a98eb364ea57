use Rattle.promises.proofs.EndedMachines.Whole.{clocked_end}
use Rattle.promises.proofs.ended_machines.clocked_runs_end_in_time.Goals as goal

pub returns : goal.returns
returns c = clocked_end c.source_programs_are_ready.ensures
