-- The pieces of programs of C are fine and typed, whatever the source.
use Rattle.c_tree.specs.Terminals.{terminals}
use Rattle.c_elaborate.specs.Programs.{program_elaborated}
use Rattle.expanded_programs.proofs.ElaboratedPrograms.Tokens.{numbers_fit}
use Rattle.expanded_programs.proofs.ElaboratedPrograms.Whole.{elaborated_sound}
use Rattle.typed_pieces.proofs.Elaborated.{elaborated_types}
use Rattle.typed_pieces.proofs.Grammar.{grammar_types}
use Rattle.typed_pieces.proofs.Whole.{expanded_typed, expanded_lengths}
use Rattle.source_answers.proofs.SourceRuns.FinePieces.Sources.{source_fine}
use Rattle.source_answers.specs.SourceRuns.SourceTypes.{SourcesHaveFinePieces, SourcesHaveTypedPieces, SourcesArraysHaveLengths}
use Rattle.source_answers.proofs.SourceRuns.SourceTypes.Types.{tokens_typed}

pub sources_fine : SourcesHaveFinePieces
sources_fine source tokens replaced end p top name spells becomes =
    source_fine source tokens replaced end p top name spells becomes (numbers_fit source tokens replaced spells becomes) (tokens_typed source tokens replaced spells becomes)

pub sources_typed : SourcesHaveTypedPieces
sources_typed source tokens replaced end p top name spells becomes derives named none =
    let sound = elaborated_sound (terminals replaced) end p top name (numbers_fit source tokens replaced spells becomes) derives named none in
    let types = elaborated_types p top (grammar_types (terminals replaced) end p derives (tokens_typed source tokens replaced spells becomes)) in
    expanded_typed (program_elaborated p top) sound types

pub sources_lengths : SourcesArraysHaveLengths
sources_lengths source tokens replaced end p top name spells becomes derives named none =
    let sound = elaborated_sound (terminals replaced) end p top name (numbers_fit source tokens replaced spells becomes) derives named none in
    let types = elaborated_types p top (grammar_types (terminals replaced) end p derives (tokens_typed source tokens replaced spells becomes)) in
    expanded_lengths (program_elaborated p top) sound types
