use Rattle.source_validity.proofs.SourceMachines.WholePrograms.Whole.{scheduled_ready}
use Rattle.source_validity.proofs.source_machines.whole_programs.scheduled_is_ready.Goals as goal

pub returns : goal.returns
returns c = scheduled_ready
