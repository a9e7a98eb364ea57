use Rattle.source_validity.proofs.KeptTables.Whole.{expanded_kept}
use Rattle.source_validity.proofs.kept_tables.laws.expanded_tables_kept.Goals as goal

pub returns : goal.returns
returns c = expanded_kept
