-- Programs without faults become pieces that are proper.
use Rattle.c_elaborate.specs.Programs.{program_elaborated}
use Rattle.c_expand.specs.Expansion.{expansion}
use Rattle.source_answers.proofs.SourceRuns.ElaboratedSubscripts.Programs.{checked_fit}
use Rattle.source_validity.proofs.KeptTables.CheckedPrograms.{checked_kept}
use Rattle.source_validity.specs.KeptTables.ProperPieces.{CheckedPiecesAreProper}
use Rattle.source_validity.proofs.KeptTables.Joined.{joined_proper}

pub checked_proper : CheckedPiecesAreProper
checked_proper tokens end p top name fits derives is_top h operates =
    let made = expansion (program_elaborated p top) in
    joined_proper made.arrays made.pieces (checked_fit tokens end p top name fits derives is_top h) (checked_kept tokens end p top name fits derives is_top h) operates
