-- The answers of clocked runs in words alone.
use Rattle.std.proofs.Common.{◌≡◌, ◌∙◌, ◌+◌, ℕ, List, [], sym, ap, subst, Option}
use Rattle.std.proofs.lemmas.Option.{same_Some}
use Rattle.hls_base.specs.FileScope.{FileScope}
use Rattle.hls_base.specs.declared.point.Point.{Point}
use Rattle.hls_base.specs.declared.settings.Units.{Units}
use Rattle.c_tree.specs.Terminals.{terminals}
use Rattle.c_tree.specs.Tree.{ProgramTree}
use Rattle.c_meaning.specs.Points.{tally_of}
use Rattle.c_meaning.specs.Run.{c_run, ended}
use Rattle.c_meaning.proofs.Tallies.{count_in-tally_of}
use Rattle.pieces.specs.Program.{ExpandedTree}
use Rattle.hls_base.specs.Steps.{Ran, ran, went}
use Rattle.c_meaning.specs.PieceRuns.Values.{Store}
use Rattle.c_meaning.specs.PieceRuns.Pieces.{Way, pieces_run}
use Rattle.c_meaning.specs.PieceRuns.Runs.{frame_of, started, result_word, host_arrays, kept_of}
use Rattle.expand_runs.specs.Reading.{IsTyped}
use Rattle.expanded_programs.specs.ElaboratedPrograms.Inputs.{ProgramInputsFit}
use Rattle.expanded_programs.proofs.ElaboratedPrograms.Tokens.{numbers_fit}
use Rattle.source_answers.proofs.SourceRuns.ElaboratedSubscripts.Programs.{checked_fit}
use Rattle.ir_core.specs.declared.cfg.Cfg.{Cfg}
use Rattle.ir_core.specs.declared.stamp.Untimed.{Untimed}
use Rattle.ir_core.specs.declared.timed.Timed.{Timed}
use Rattle.cycle_report.specs.declared.report.Cost.{Cost}
use Rattle.cycle_report.specs.FormulaValue.{cycles}
use Rattle.cycle_report.specs.PlainReport.{PlainLoop}
use Rattle.report_rows.specs.Costs.{AreRowsOf}
use Rattle.ir_core.specs.Bodies.{Words}
use Rattle.timed_pieces.specs.FlatRuns.{Choice, IsFine, IsLaidOut}
use Rattle.pass_runs.specs.LowerRuns.Holding.{Holds, none_hidden, ArraysAreShort}
use Rattle.expanded_pieces.specs.BegunPieces.Points.{begins_at}
use Rattle.clock_ir.specs.ClockRuns.{timed_program, clock_run}
use Rattle.clock_ir.specs.ClockRuns as clock
use Rattle.clock_runs.specs.Laws.{run_cycles}
use Rattle.timed_pieces.specs.Laws.{HasTimes, node_count}
use Rattle.sound_trees.specs.Subscripts.{PiecesSubscriptsFit}
use Rattle.timed_pieces.proofs.SoundPrograms.Whole.{sound}
use Rattle.source_answers.proofs.SourceRuns.SourceTypes.Whole.{sources_fine}
use Rattle.timed_pieces.proofs.FormulaCycles.Pieces.{formula_counts_pieces}
use Rattle.timed_pieces.specs.StartedWords.Contents.{Begins, host_words, file_words}
use Rattle.timed_pieces.proofs.StartedWords.Starting.{started_words_hold}
use Rattle.timed_pieces.proofs.StartedWords.Ending.{ended_words_show}
use Rattle.compile_steps.specs.BegunPrograms.{HasEnds}
use Rattle.compile_steps.proofs.BegunPrograms.Programs.{checked_begins}
use Rattle.source_answers.specs.SourceRuns.{IsFaultless, expanded, EndsAs, RunsAs}
use Rattle.source_answers.proofs.SourceRuns.Whole.{ends_as, ended_defined, same_answer, runs_as}
use Rattle.source_answers.specs.Laws.{HaveWidths, EndsWith, IsCounted, AnswersAs, SourceProgramsAnswer}

-- ---- what last words show

ended_same : (x y : Option ℕ) (rows lines : List (List ℕ)) (kept left : FileScope) (trace : List Point) → ended x rows kept trace ≡ ended y lines left trace → (x ≡ y) × (rows ≡ lines) × (kept ≡ left)
ended_same x y rows lines kept left trace h = (cc, cc, cc)

ends_with : (e : ExpandedTree) (timed : Cfg Timed) (t : Words) (count : ℕ) (result : Option ℕ) (arrays : List (List ℕ)) (kept : FileScope) → HasEnds e → ArraysAreShort (frame_of e) → EndsAs e timed t count result arrays kept → EndsWith e timed t count result arrays kept
ends_with e timed t count result arrays kept has short y =
    let shown = ended_words_show e y.way y.store y.word y.words [] 0 short has.kept has.result y.done in
    let same = ended_same (result_word e e.ret e.result y.store) y.word (host_arrays e.arrays 0 y.store) (host_words e.arrays 0 y.words.memories) (kept_of e y.store) (file_words e y.words) [] shown in
    record {
      words = y.words;
      run = subst (λ w. clock_run (timed_program timed) t count ≡ clock.ended w y.words) (sym same.0 ∙ y.result_is) y.run;
      sooner = y.sooner;
      hosts = sym same.1 ∙ y.arrays_are;
      file = sym same.2 ∙ y.kept_is;
      widths = y.done.3;
    }

-- ---- the whole

module _ (source : List ℕ) (p : ProgramTree) (top : ℕ) (name : List ℕ) (s : IsFaultless source p top name) (start : Point) (fine : IsFine (frame_of (expanded p top)) (begins_at (expanded p top).pieces) (expanded p top).pieces start)
    (subscripts : PiecesSubscriptsFit (expanded p top).arrays (expanded p top).pieces) (has : HasEnds (expanded p top)) (choice : Choice) (cfg : Cfg Untimed)
    (laid : IsLaidOut (frame_of (expanded p top)) choice (expanded p top).pieces start (expanded p top).result cfg) (units : Units) (timed : Cfg Timed) (loops : List PlainLoop) (times : HasTimes units cfg timed loops)
    (kept : FileScope) (scalars : List ℕ) (arrays : List (List ℕ)) (t : Words) (fit : ProgramInputsFit p top kept scalars arrays) where
  abbrev e : ExpandedTree
  e = expanded p top

  module _ (first : Store) (typed : IsTyped (frame_of e) first) (holds : Holds (frame_of e) none_hidden (started e first kept scalars arrays) t) (fits : HaveWidths e t) where
    counted_end : IsCounted p top choice start cfg kept scalars arrays → (rows : List Cost) → AreRowsOf timed.nodes.items rows
        → (n : ℕ) (result : Option ℕ) (last : List (List ℕ)) (left : FileScope) (trace : List Point) → c_run p top kept scalars arrays n ≡ ended result last left trace
        → EndsAs e timed t (cycles 1 rows (tally_of trace)) result last left
    counted_end counted rows are n result last left trace h =
        let run : Ran Store Way = pieces_run (frame_of e) e.pieces (started e first kept scalars arrays) n in
        let same = same_answer source p top name s first kept scalars arrays n typed fit (ended_defined (c_run p top kept scalars arrays n) result last left trace h) in
        let x = ends_as e run.trace run.outcome result last left trace (same ∙ h) in
        let is : run ≡ ran trace (went x.way x.store x.left) = ap (λ tr. ran tr run.outcome) x.trace_is ∙ ap (λ o. ran trace o) x.at in
        let y = formula_counts_pieces (frame_of e) choice (begins_at e.pieces) e.pieces start e.result cfg fine laid units timed loops times
        (sound (frame_of e) choice (begins_at e.pieces) e.pieces start e.result cfg fine subscripts laid) counted.loops rows are (started e first kept scalars arrays) t holds fits (counted.passes first typed)
        n x.left trace x.way x.store is (tally_of trace) (λ q. count_in-tally_of trace q) in
        record { word = y.0; words = y.1; store = x.store; way = x.way; run = y.3; sooner = y.4; done = y.2; result_is = x.result_is; arrays_are = x.arrays_are; kept_is = x.kept_is }

    answers_from : AnswersAs p top choice start cfg timed kept scalars arrays t
    answers_from =
        let r : RunsAs p top choice start cfg timed kept scalars arrays t = runs_as source p top name s start fine subscripts choice cfg laid units timed loops times first kept scalars arrays t typed fit holds fits in
        record {
          finite = λ n result last left trace h. ends_with e timed t (1 + run_cycles cfg timed t (node_count (frame_of e) choice (begins_at e.pieces) e.pieces start trace)) result last left has fine.short (r.finite n result last left trace h);
          counted = λ counted rows are n result last left trace h. ends_with e timed t (cycles 1 rows (tally_of trace)) result last left has fine.short (counted_end counted rows are n result last left trace h);
          endless = r.endless;
        }

  pub answers : Begins e kept scalars arrays t → HaveWidths e t → AnswersAs p top choice start cfg timed kept scalars arrays t
  answers begins fits =
      let found = started_words_hold e kept scalars arrays t fine.short has.apart fits begins in
      answers_from found.0 found.1 found.2 fits

pub source_answers : SourceProgramsAnswer
source_answers source p top name s start first choice cfg laid units timed loops times kept scalars arrays t fit begins fits =
    let fine = sources_fine source s.tokens s.replaced s.end p top name s.spelled s.becomes s.derives s.named s.faultless in
    let numbers = numbers_fit source s.tokens s.replaced s.spelled s.becomes in
    let subscripts = checked_fit (terminals s.replaced) s.end p top name numbers s.derives s.named s.faultless in
    let has = checked_begins (terminals s.replaced) s.end p top name numbers s.derives s.named s.faultless in
    let own : fine.0 ≡ start = same_Some fine.0 start (sym fine.1.first ∙ first) in
    let begun_ : IsFine (frame_of (expanded p top)) (begins_at (expanded p top).pieces) (expanded p top).pieces start = subst (λ q. IsFine (frame_of (expanded p top)) (begins_at (expanded p top).pieces) (expanded p top).pieces q) own fine.1 in
    answers source p top name s start begun_ subscripts has.0 choice cfg laid units timed loops times kept scalars arrays t fit begins fits
