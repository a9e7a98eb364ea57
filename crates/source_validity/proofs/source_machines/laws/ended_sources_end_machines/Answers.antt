use Rattle.source_validity.proofs.SourceMachines.Whole.{sources_end}
use Rattle.source_validity.proofs.source_machines.laws.ended_sources_end_machines.Goals as goal

pub returns : goal.returns
returns c = sources_end
