use Rattle.source_validity.proofs.KeptTables.Programs.{checked_proper}
use Rattle.source_validity.proofs.kept_tables.proper_pieces.checked_pieces_are_proper.Goals as goal

pub returns : goal.returns
returns c = checked_proper
