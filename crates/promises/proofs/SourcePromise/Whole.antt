-- From sources without faults to the pins of their circuits.
use Rattle.std.proofs.Common.{◌≡◌, ◌∙◌, List, [], ◌∷◌, map, refl, sym, ap}
use Rattle.c_tree.specs.Terminals.{terminals}
use Rattle.c_elaborate.specs.Programs.{program_elaborated}
use Rattle.pieces.specs.Program.{ArrayTree, ExpandedTree}
use Rattle.expanded_programs.proofs.ElaboratedPrograms.Tokens.{numbers_fit}
use Rattle.expanded_programs.proofs.ElaboratedPrograms.Whole.{elaborated_sound}
use Rattle.source_answers.proofs.SourceRuns.ElaboratedSubscripts.Programs.{checked_fit}
use Rattle.compile_steps.specs.Resets.{array_memory, expanded_frame}
use Rattle.expanded_pieces.specs.BegunPieces.Points.{begins_at}
use Rattle.compile_steps.proofs.BegunPrograms.Programs.{checked_begins}
use Rattle.timed_pieces.specs.Laws.{HasTimes}
use Rattle.datapath.specs.Plans.{plan_of}
use Rattle.source_answers.specs.SourceRuns.{expanded}
use Rattle.source_answers.proofs.CompiledAnswers.Whole.{choice_of, laid_from, fine_from}
use Rattle.compiled_plans.specs.Frames.{plan_array, HasFrame}
use Rattle.datapath.specs.LeftOut.{savings_of}
use Rattle.compiled_plans.proofs.Whole.{from_view, has_frame, compiled}
use Rattle.source_validity.proofs.LeadingHosts.Whole.{hosts_first}
use Rattle.source_validity.proofs.AddressedFrames.Frames.{frames_addressed}
use Rattle.source_validity.proofs.KeptTables.CheckedPrograms.{checked_kept}
use Rattle.promises.proofs.CircuitPromise.Whole.{promise_kept}
use Rattle.promises.specs.SourcePromise.{SourcePlansAreCompiled, SourcesKeepPromise}

-- arrays of the plan are those of the expanded program
arrays_kept : (arrays : List ArrayTree) → map from_view (map array_memory arrays) ≡ map plan_array arrays
arrays_kept [] = refl
arrays_kept (a ∷ arrays) = ap (λ l. plan_array a ∷ l) (arrays_kept arrays)

pub plans_compiled : SourcePlansAreCompiled
plans_compiled source p top name s passes untimed flat_ valid_ units timed loops times frame small live registers assigned =
    let e : ExpandedTree = expanded p top in
    let saved = savings_of timed live in
    let numbers = numbers_fit source s.tokens s.replaced s.spelled s.becomes in
    let tokens = terminals s.replaced in
    let subscripts = checked_fit tokens s.end p top name numbers s.derives s.named s.faultless in
    let has = (checked_begins tokens s.end p top name numbers s.derives s.named s.faultless).0 in
    let sound = elaborated_sound tokens s.end p top name numbers s.derives s.named s.faultless in
    let same : HasFrame e (plan_of timed registers saved) = has_frame e timed registers saved (expanded_frame e) frame refl refl (arrays_kept e.arrays) in
    let times_ : HasTimes units untimed timed loops = record { frame = times.frame; first = times.first; nodes = times.nodes } in
    compiled e (choice_of passes) (begins_at e.pieces) flat_.start untimed (fine_from source p top name s flat_.start flat_.starts) subscripts (laid_from e passes untimed flat_.start flat_ refl (sym times.frame ∙ frame) valid_)
    units timed loops times_ small (frames_addressed tokens s.end p top name s.derives s.faultless timed.frame frame) live registers assigned
    same has.contents (hosts_first (program_elaborated p top) sound) has.kept has.result (checked_kept tokens s.end p top name numbers s.derives s.named s.faultless)

pub sources_kept : SourcesKeepPromise
sources_kept source p top name s function is passes untimed flat_ valid_ units timed loops times frame small report base rows init live registers assigned d circuit memories valid =
    promise_kept source p top name s function is passes untimed flat_ valid_ units timed loops times frame report base rows init registers (savings_of timed live)
    (plans_compiled source p top name s passes untimed flat_ valid_ units timed loops times frame small live registers assigned) d circuit memories valid
