use Rattle.source_validity.proofs.KeptTables.CheckedPrograms.{elaborated_kept}
use Rattle.source_validity.proofs.kept_tables.laws.elaborated_constants_kept.Goals as goal

pub returns : goal.returns
returns c = elaborated_kept
