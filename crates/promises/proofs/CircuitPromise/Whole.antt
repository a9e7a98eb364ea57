-- The promise of compiled programs, from the source to the pins.
use Rattle.std.proofs.Common.{◌≡◌, ◌∙◌, refl, sym}
use Rattle.hls_base.specs.declared.point.Point.{Point}
use Rattle.c_tree.specs.Terminals.{terminals}
use Rattle.pieces.specs.Program.{ExpandedTree}
use Rattle.c_meaning.specs.PieceRuns.Runs.{frame_of}
use Rattle.expanded_programs.proofs.ElaboratedPrograms.Tokens.{numbers_fit}
use Rattle.timed_pieces.specs.FlatRuns.{IsLaidOut}
use Rattle.timed_pieces.specs.Laws.{HasTimes}
use Rattle.timed_pieces.proofs.ScheduleRuns.Programs.{scheduled_well}
use Rattle.compile_steps.proofs.BegunPrograms.Programs.{checked_begins}
use Rattle.datapath.specs.Plans.{Plan, plan_of}
use Rattle.circuit_agreement.specs.Standing.{FitsFrame}
use Rattle.circuit_agreement.specs.Answers.{AgreesWithRun}
use Rattle.circuit_agreement.proofs.Agreeing.{circuits_agree}
use Rattle.source_answers.specs.SourceRuns.{expanded}
use Rattle.source_answers.proofs.CompiledAnswers.Whole.{choice_of, laid_from, counted}
use Rattle.source_answers.proofs.SourceDesigns.Whole.{designs_agree}
use Rattle.promises.specs.CircuitPromise.{SourceCircuitsKeepPromise}
use Rattle.promises.proofs.CircuitPromise.Frames.{frames_fit}

pub promise_kept : SourceCircuitsKeepPromise
promise_kept source p top name s function is passes untimed flat_ valid_ units timed loops times frame report base rows init registers savings compiled d circuit memories valid =
    let e : ExpandedTree = expanded p top in
    let plan : Plan = plan_of timed registers savings in
    let start : Point = flat_.start in
    let untimed_frame = sym times.frame ∙ frame in
    let laid : IsLaidOut (frame_of e) (choice_of passes) e.pieces start e.result untimed = laid_from e passes untimed start flat_ refl untimed_frame valid_ in
    let times_ : HasTimes units untimed timed loops = record { frame = times.frame; first = times.first; nodes = times.nodes } in
    let has = checked_begins (terminals s.replaced) s.end p top name (numbers_fit source s.tokens s.replaced s.spelled s.becomes) s.derives s.named s.faultless in
    let fits : FitsFrame plan = frames_fit e (choice_of passes) start untimed timed registers savings has.0 frame laid (scheduled_well units untimed timed loops times.frame times.first times.nodes) in
    let agrees : AgreesWithRun plan d = circuits_agree plan d compiled fits circuit memories valid in
    designs_agree source p top name s function is start flat_.starts (choice_of passes) untimed laid untimed_frame units timed loops times_ report base rows init
    (λ kept scalars arrays fit. counted source p top name s passes untimed start flat_.starts laid kept scalars arrays) registers savings d agrees
