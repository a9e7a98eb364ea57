use Rattle.source_validity.proofs.SourceMachines.WholePrograms.Whole.{well_timed_ready}
use Rattle.source_validity.proofs.source_machines.whole_programs.well_timed_is_ready.Goals as goal

pub returns : goal.returns
returns c = well_timed_ready
