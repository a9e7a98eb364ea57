use Rattle.source_validity.proofs.SourceMachines.WholePrograms.Machines.{machines_keep}
use Rattle.source_validity.proofs.source_machines.whole_programs.scheduled_machines_keep_runs.Goals as goal

pub returns : goal.returns
returns c = machines_keep
