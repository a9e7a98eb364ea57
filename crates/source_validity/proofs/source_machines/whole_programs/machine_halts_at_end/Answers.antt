use Rattle.source_validity.proofs.SourceMachines.WholePrograms.Machines.{halts_at_end}
use Rattle.source_validity.proofs.source_machines.whole_programs.machine_halts_at_end.Goals as goal

pub returns : goal.returns
returns c = halts_at_end
