-- What each source without faults is compiled to is valid.
use Rattle.c_tree.specs.Terminals.{terminals}
use Rattle.c_elaborate.specs.Programs.{program_elaborated}
use Rattle.pieces.specs.Resolved.Core.{CoreProgramTree}
use Rattle.pieces.specs.Program.{ExpandedTree}
use Rattle.c_meaning.specs.PieceRuns.Runs.{frame_of}
use Rattle.expanded_programs.specs.Calls.Programs.{IsProgramSound}
use Rattle.expanded_programs.proofs.ElaboratedPrograms.Tokens.{numbers_fit}
use Rattle.expanded_programs.proofs.ElaboratedPrograms.Whole.{elaborated_sound}
use Rattle.expanded_pieces.specs.BegunPieces.Points.{begins_at}
use Rattle.expanded_pieces.proofs.ApartPoints.Sources.{source_points}
use Rattle.typed_pieces.proofs.Proper.{pieces_operate}
use Rattle.source_answers.proofs.SourceRuns.SourceTypes.Whole.{sources_fine, sources_typed, sources_lengths}
use Rattle.source_answers.proofs.SourceRuns.ElaboratedSubscripts.Programs.{checked_fit}
use Rattle.compile_steps.proofs.BegunPrograms.Programs.{checked_begins}
use Rattle.source_validity.proofs.KeptTables.Programs.{checked_proper}
use Rattle.timed_pieces.specs.FormulaCycles.Ends.{LoopsLeadToTheirEnds}
use Rattle.timed_pieces.proofs.FormulaCycles.LaidOut.{unfused_lead}
use Rattle.source_answers.proofs.EndedLoops.Whole.{loops_end}
use Rattle.source_answers.proofs.NodePoints.Whole.{unfused_differ}
use Rattle.source_validity.proofs.ValidFrames.Whole.{frame_valid}
use Rattle.source_answers.specs.SourceRuns.{expanded}
use Rattle.source_validity.specs.CompiledValidity.{SourcesCompileToValid}
use Rattle.source_validity.proofs.CompiledValidity.Frames.{sound_params, dimensioned}
use Rattle.source_validity.proofs.CompiledValidity.Whole.{laid_out_valid}

pub sources_valid : SourcesCompileToValid
sources_valid source p top name s =
    let e : ExpandedTree = expanded p top in
    let core : CoreProgramTree = program_elaborated p top in
    let tokens = terminals s.replaced in
    let numbers = numbers_fit source s.tokens s.replaced s.spelled s.becomes in
    let fine = sources_fine source s.tokens s.replaced s.end p top name s.spelled s.becomes s.derives s.named s.faultless in
    let typed = sources_typed source s.tokens s.replaced s.end p top name s.spelled s.becomes s.derives s.named s.faultless in
    let sound : IsProgramSound core = elaborated_sound tokens s.end p top name numbers s.derives s.named s.faultless in
    let subscripts = checked_fit tokens s.end p top name numbers s.derives s.named s.faultless in
    let proper = checked_proper tokens s.end p top name numbers s.derives s.named s.faultless (pieces_operate (frame_of e) e.pieces typed) in
    let ends = (checked_begins tokens s.end p top name numbers s.derives s.named s.faultless).0 in
    let differ = source_points source s.tokens s.replaced s.end p top s.spelled s.becomes s.derives in
    let arrays = dimensioned tokens s.end p top name s.derives s.faultless (sources_lengths source s.tokens s.replaced s.end p top name s.spelled s.becomes s.derives s.named s.faultless) in (
      fine.0,
      fine.1.first,
      λ choice cfg laid same few many.
          (let lead : LoopsLeadToTheirEnds cfg =
          unfused_lead (frame_of e) choice e.pieces fine.0 e.result cfg laid (unfused_differ (frame_of e) choice (begins_at e.pieces) e.pieces fine.0 e.result cfg fine.1 laid differ) (loops_end core) in
          laid_out_valid e choice fine.0 cfg laid same fine.1.typed subscripts proper ends.result lead (frame_valid e cfg.frame same ends.contents ends.kept (sound_params core sound) arrays few) many),
    )
