use Rattle.source_validity.proofs.KeptTables.CheckedPrograms.{checked_kept}
use Rattle.source_validity.proofs.kept_tables.laws.checked_tables_kept.Goals as goal

pub returns : goal.returns
returns c = checked_kept
