use Rattle.source_validity.proofs.SourceMachines.Whole.{sources_ready}
use Rattle.source_validity.proofs.source_machines.laws.source_programs_are_ready.Goals as goal

pub returns : goal.returns
returns c = sources_ready c.scheduled_is_ready.ensures
