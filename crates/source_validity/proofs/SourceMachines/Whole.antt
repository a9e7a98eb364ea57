-- The machines of sources.
use Rattle.std.proofs.Common.{◌≡◌, ◌∙◌, ap, sym, subst, length, Some}
use Rattle.c_tree.specs.Terminals.{terminals}
use Rattle.hls_base.specs.declared.point.Point.{Point}
use Rattle.c_elaborate.specs.Programs.{program_elaborated}
use Rattle.c_expand.specs.Expansion.{variables_of}
use Rattle.c_meaning.specs.PieceRuns.Runs.{frame_of}
use Rattle.expanded_programs.proofs.ElaboratedPrograms.Tokens.{numbers_fit}
use Rattle.expanded_programs.proofs.ElaboratedPrograms.Whole.{elaborated_sound}
use Rattle.source_answers.proofs.SourceRuns.ElaboratedSubscripts.Programs.{checked_fit}
use Rattle.expanded_programs.proofs.TopStores.{kept_count, kept_types, params_types, made, outlined, params}
use Rattle.source_answers.proofs.SourceRuns.SourceTypes.Whole.{sources_fine}
use Rattle.expanded_pieces.specs.BegunPieces.Points.{begins_at}
use Rattle.timed_pieces.specs.FlatRuns.{IsLaidOut}
use Rattle.clock_ir.specs.ClockRuns.{timed_program}
use Rattle.clock_runs.specs.Laws.{IsEnded}
use Rattle.clock_machine.specs.Starts.{KeptThere, ParametersThere}
use Rattle.source_answers.specs.SourceRuns.{expanded}
use Rattle.source_validity.specs.SourceMachines.WholePrograms.{ScheduledIsReady}
use Rattle.source_validity.proofs.SourceMachines.WholePrograms.Machines.{ends_machines}
use Rattle.source_validity.specs.SourceMachines.{SourceProgramsAreReady, SourceFramesAreNamed, EndedSourcesEndMachines}
use Rattle.source_validity.proofs.SourceMachines.Named.{kept_there, tops_there}

some_point : (a b : Point) → Some a ≡ Some b → a ≡ b
some_point a b e = (cc)

pub sources_ready : ScheduledIsReady → SourceProgramsAreReady
sources_ready scheduled_ready source p top name s choice start cfg starts laid units timed rows times =
    let e = expanded p top in
    let fine = sources_fine source s.tokens s.replaced s.end p top name s.spelled s.becomes s.derives s.named s.faultless in
    let numbers = numbers_fit source s.tokens s.replaced s.spelled s.becomes in
    let subscripts = checked_fit (terminals s.replaced) s.end p top name numbers s.derives s.named s.faultless in
    let same : start ≡ fine.0 = some_point start fine.0 (sym starts ∙ fine.1.first) in
    scheduled_ready (frame_of e) choice (begins_at e.pieces) e.pieces fine.0 e.result cfg fine.1 subscripts (subst (λ q. IsLaidOut (frame_of e) choice e.pieces q e.result cfg) same laid) units timed rows times

pub frames_named : SourceFramesAreNamed
frames_named source p top name s frame of =
    let core = program_elaborated p top in
    let e = expanded p top in
    let sound = elaborated_sound (terminals s.replaced) s.end p top name (numbers_fit source s.tokens s.replaced s.spelled s.becomes) s.derives s.named s.faultless in
    let fn = sound.top.0 in
    let is_fn = sound.top.1 in
    let kept_values = (made core sound fn is_fn).kept ∙ (outlined core sound fn is_fn).kept in
    let params_values = (made core sound fn is_fn).params ∙ ap variables_of (outlined core sound fn is_fn).params in
    record {
      kept = subst (λ ks. KeptThere ks (length frame.variables.items)) (sym (of.kept ∙ kept_values)) (subst (KeptThere _) (sym of.variables) (kept_there e.variables 0 core.file (kept_types core sound fn is_fn)));
      params = subst (λ vs. ParametersThere vs (length frame.variables.items)) (sym (of.params ∙ params_values))
          (subst (ParametersThere _) (sym of.variables) (tops_there e.variables (kept_count core sound fn is_fn) 0 (params core sound fn is_fn) (params_types core sound fn is_fn)));
    }

pub sources_end : EndedSourcesEndMachines
sources_end e timed t cycles result arrays kept ends =
    ends_machines (timed_program timed) t cycles ends.word ends.words (record { end = ends.run; sooner = λ m lt last behind over. ends.sooner m lt (subst IsEnded (sym over) tt) })
