-- The pieces of programs of C are fine.
use Rattle.c_tree.specs.Terminals.{terminals}
use Rattle.c_elaborate.specs.Programs.{program_elaborated}
use Rattle.expanded_pieces.proofs.Grammar.{grammar_begins}
use Rattle.expanded_pieces.proofs.Elaborated.{elaborated_jumps, elaborated_lengths}
use Rattle.expanded_pieces.proofs.ApartPoints.Grammar.{grammar_places}
use Rattle.expanded_pieces.proofs.ApartPoints.Tokens.{source_places}
use Rattle.expanded_programs.proofs.ElaboratedPrograms.Whole.{elaborated_sound}
use Rattle.typed_pieces.proofs.Elaborated.{elaborated_types}
use Rattle.typed_pieces.proofs.Grammar.{grammar_types}
use Rattle.source_answers.specs.SourceRuns.FinePieces.{SoundPiecesAreFine, SourcePiecesAreFine}
use Rattle.source_answers.proofs.SourceRuns.FinePieces.Whole.{pieces_fine}
use Rattle.source_answers.proofs.SourceRuns.FinePieces.Typing.{sound_typed}

pub sound_fine : SoundPiecesAreFine
sound_fine p sound types jumps lengths places = pieces_fine p sound.top.0 sound.top.1 jumps lengths places (sound_typed p sound types)

pub source_fine : SourcePiecesAreFine
source_fine source tokens replaced end p top name spells becomes numbers types derives named none =
    let sound = elaborated_sound (terminals replaced) end p top name numbers derives named none in (
      _,
      sound_fine (program_elaborated p top) sound (elaborated_types p top (grammar_types (terminals replaced) end p derives types)) (elaborated_jumps p top name none (grammar_begins (terminals replaced) end p derives)) (elaborated_lengths p top)
          (grammar_places (terminals replaced) end p top derives (source_places source tokens replaced spells becomes)),
    )
