use Rattle.source_validity.proofs.SourceMachines.Whole.{frames_named}
use Rattle.source_validity.proofs.source_machines.laws.source_frames_are_named.Goals as goal

pub returns : goal.returns
returns c = frames_named
