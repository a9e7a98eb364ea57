use Rattle.source_validity.proofs.KeptTables.Joined.{joined_proper}
use Rattle.source_validity.proofs.kept_tables.proper_pieces.joined_pieces_are_proper.Goals as goal

pub returns : goal.returns
returns c = joined_proper
