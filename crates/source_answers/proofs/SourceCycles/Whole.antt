-- From the run in C to the cycles of the clocked run.
use Rattle.std.proofs.Common.{◌≡◌, ◌∙◌, ℕ, List, ap, Option}
use Rattle.hls_base.specs.FileScope.{FileScope}
use Rattle.hls_base.specs.declared.point.Point.{Point}
use Rattle.hls_base.specs.declared.settings.Units.{Units}
use Rattle.c_tree.specs.Terminals.{terminals}
use Rattle.c_tree.specs.Tree.{ProgramTree}
use Rattle.c_meaning.specs.Points.{tally_of}
use Rattle.c_meaning.specs.Run.{ended, c_run}
use Rattle.c_meaning.proofs.Tallies.{count_in-tally_of}
use Rattle.c_elaborate.specs.Programs.{program_elaborated}
use Rattle.pieces.specs.Program.{ExpandedTree}
use Rattle.hls_base.specs.Steps.{Ran, ran, went}
use Rattle.c_meaning.specs.PieceRuns.Values.{Store}
use Rattle.c_meaning.specs.PieceRuns.Pieces.{Way, pieces_run}
use Rattle.c_meaning.specs.PieceRuns.Runs.{frame_of, started}
use Rattle.expand_runs.specs.Reading.{IsTyped}
use Rattle.expanded_programs.specs.ElaboratedPrograms.Inputs.{ProgramInputsFit}
use Rattle.expanded_programs.proofs.ElaboratedPrograms.Tokens.{numbers_fit}
use Rattle.source_answers.proofs.SourceRuns.ElaboratedSubscripts.Programs.{checked_fit}
use Rattle.ir_core.specs.declared.cfg.Cfg.{Cfg}
use Rattle.ir_core.specs.declared.stamp.Untimed.{Untimed}
use Rattle.ir_core.specs.declared.timed.Timed.{Timed}
use Rattle.cycle_report.specs.declared.report.Cost.{Cost}
use Rattle.cycle_report.specs.FormulaValue.{cycles}
use Rattle.cycle_report.specs.PlainReport.{PlainLoop}
use Rattle.report_rows.specs.Costs.{AreRowsOf}
use Rattle.ir_core.specs.Bodies.{Words}
use Rattle.pass_runs.specs.ConvertRuns.Typed.{Fits}
use Rattle.pass_runs.specs.ConvertRuns.LoweredConversions.Suiting as typing
use Rattle.pass_runs.specs.LowerRuns.Suits.{scope_of}
use Rattle.pass_runs.specs.LowerRuns.Holding.{Holds, none_hidden}
use Rattle.timed_pieces.specs.FlatRuns.{Choice, IsFine, IsLaidOut}
use Rattle.expanded_pieces.specs.BegunPieces.Points.{begins_at}
use Rattle.timed_pieces.specs.Laws.{HasTimes}
use Rattle.sound_trees.specs.Subscripts.{PiecesSubscriptsFit}
use Rattle.timed_pieces.proofs.SoundPrograms.Whole.{sound}
use Rattle.source_answers.proofs.SourceRuns.SourceTypes.Whole.{sources_fine}
use Rattle.expanded_pieces.specs.ApartPoints.Apart.{AreApart}
use Rattle.expanded_pieces.specs.ApartPoints.Points.{all_points}
use Rattle.expanded_pieces.proofs.ApartPoints.Sources.{source_points}
use Rattle.timed_pieces.specs.FormulaCycles.Ends.{LoopsLeadToTheirEnds}
use Rattle.timed_pieces.specs.FormulaCycles.{FormulaGivesCycles}
use Rattle.timed_pieces.proofs.FormulaCycles.LaidOut.{loops_lead}
use Rattle.timed_pieces.proofs.FormulaCycles.Pieces.{formula_counts_pieces}
use Rattle.source_answers.proofs.EndedLoops.Whole.{loops_end}
use Rattle.source_answers.proofs.NodePoints.Whole.{points_differ, passes_kept}
use Rattle.source_answers.specs.SourceRuns.{IsFaultless, expanded, EndsAs}
use Rattle.source_answers.proofs.SourceRuns.Whole.{ends_as, ended_defined, same_answer, runs_as}
use Rattle.source_answers.specs.SourceCycles.{RunsInCycles, SourceFormulaCounts}

runs_in_cycles : (source : List ℕ) (p : ProgramTree) (top : ℕ) (name : List ℕ) (s : IsFaultless source p top name) (start : Point)
    → IsFine (frame_of (expanded p top)) (begins_at (expanded p top).pieces) (expanded p top).pieces start → PiecesSubscriptsFit (expanded p top).arrays (expanded p top).pieces
    → (choice : Choice) (cfg : Cfg Untimed) → IsLaidOut (frame_of (expanded p top)) choice (expanded p top).pieces start (expanded p top).result cfg
    → (units : Units) (timed : Cfg Timed) (loops : List PlainLoop) → HasTimes units cfg timed loops → (rows : List Cost) → AreRowsOf timed.nodes.items rows
    → (first : Store) (kept : FileScope) (scalars : List ℕ) (arrays : List (List ℕ)) (t : Words) → IsTyped (frame_of (expanded p top)) first → ProgramInputsFit p top kept scalars arrays
    → Holds (frame_of (expanded p top)) none_hidden (started (expanded p top) first kept scalars arrays) t → Fits (typing.widths_of (scope_of (frame_of (expanded p top)))) (typing.words_of (scope_of (frame_of (expanded p top)))) t
    → RunsInCycles p top timed rows kept scalars arrays t
runs_in_cycles source p top name s start fine subscripts choice cfg laid units timed loops times rows are first kept scalars arrays t typed fit holds fits = record {
  finite = finite;
  endless = (runs_as source p top name s start fine subscripts choice cfg laid units timed loops times first kept scalars arrays t typed fit holds fits).endless;
} where
  e : ExpandedTree
  e = expanded p top

  store : Store
  store = started e first kept scalars arrays

  differ : AreApart (all_points e.pieces)
  differ = source_points source s.tokens s.replaced s.end p top s.spelled s.becomes s.derives

  to_ends : LoopsLeadToTheirEnds cfg
  to_ends = loops_lead (frame_of e) choice e.pieces start e.result cfg laid (points_differ (frame_of e) choice (begins_at e.pieces) e.pieces start e.result cfg fine laid differ) (loops_end (program_elaborated p top))

  counted : FormulaGivesCycles (frame_of e) e.pieces e.result timed rows store t
  counted =
      formula_counts_pieces (frame_of e) choice (begins_at e.pieces) e.pieces start e.result cfg fine laid units timed loops times (sound (frame_of e) choice (begins_at e.pieces) e.pieces start e.result cfg fine subscripts laid) to_ends rows are store t holds fits
      (passes_kept (frame_of e) choice (begins_at e.pieces) e.pieces start e.result cfg fine laid differ store)

  piece_run : ℕ → Ran Store Way
  piece_run n = pieces_run (frame_of e) e.pieces store n

  finite : (n : ℕ) (result : Option ℕ) (last : List (List ℕ)) (left : FileScope) (trace : List Point) → c_run p top kept scalars arrays n ≡ ended result last left trace
      → EndsAs e timed t (cycles 1 rows (tally_of trace)) result last left
  finite n result last left trace h =
      let same = same_answer source p top name s first kept scalars arrays n typed fit (ended_defined (c_run p top kept scalars arrays n) result last left trace h) in
      let x = ends_as e (piece_run n).trace (piece_run n).outcome result last left trace (same ∙ h) in
      let run : pieces_run (frame_of e) e.pieces store n ≡ ran trace (went x.way x.store x.left) = ap (λ tr. ran tr (piece_run n).outcome) x.trace_is ∙ ap (λ o. ran trace o) x.at in
      let y = counted n x.left trace x.way x.store run (tally_of trace) (count_in-tally_of trace) in
      record { word = y.0; words = y.1; store = x.store; way = x.way; run = y.3; sooner = y.4; done = y.2; result_is = x.result_is; arrays_are = x.arrays_are; kept_is = x.kept_is }

pub formula_counts : SourceFormulaCounts
formula_counts source p top name s =
    let fine = sources_fine source s.tokens s.replaced s.end p top name s.spelled s.becomes s.derives s.named s.faultless in
    let numbers = numbers_fit source s.tokens s.replaced s.spelled s.becomes in
    (fine.0, runs_in_cycles source p top name s fine.0 fine.1 (checked_fit (terminals s.replaced) s.end p top name numbers s.derives s.named s.faultless))
