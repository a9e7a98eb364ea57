use Rattle.source_validity.proofs.SourceMachines.WholePrograms.Machines.{ends_once}
use Rattle.source_validity.proofs.source_machines.whole_programs.runs_end_once.Goals as goal

pub returns : goal.returns
returns c = ends_once
