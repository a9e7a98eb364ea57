use Rattle.source_validity.proofs.SourceMachines.SmallTimes.Whole.{times_small}
use Rattle.source_validity.proofs.source_machines.small_times.timed_programs_have_small_times.Goals as goal

pub returns : goal.returns
returns c = times_small
