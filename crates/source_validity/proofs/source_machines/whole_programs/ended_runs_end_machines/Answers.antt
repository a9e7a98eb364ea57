use Rattle.source_validity.proofs.SourceMachines.WholePrograms.Machines.{ends_machines}
use Rattle.source_validity.proofs.source_machines.whole_programs.ended_runs_end_machines.Goals as goal

pub returns : goal.returns
returns c = ends_machines
