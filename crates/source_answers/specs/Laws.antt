-- What the clocked run of the program that a source is answers.
use Rattle.std.specs.Prelude.{◌≡◌, ◌+◌, ◌<◌, ℕ, List, Option, Some}
use Rattle.hls_base.specs.FileScope.{FileScope}
use Rattle.hls_base.specs.declared.point.Point.{Point}
use Rattle.hls_base.specs.declared.settings.Units.{Units}
use Rattle.c_tree.specs.Tree.{ProgramTree}
use Rattle.c_meaning.specs.Points.{tally_of}
use Rattle.c_meaning.specs.Run.{c_run, ended, running}
use Rattle.pieces.specs.Program.{ExpandedTree}
use Rattle.c_meaning.specs.PieceRuns.Values.{Store}
use Rattle.c_meaning.specs.PieceRuns.Runs.{frame_of, started}
use Rattle.expand_runs.specs.Reading.{IsTyped}
use Rattle.expanded_programs.specs.ElaboratedPrograms.Inputs.{ProgramInputsFit}
use Rattle.ir_core.specs.declared.cfg.Cfg.{Cfg}
use Rattle.ir_core.specs.declared.stamp.Untimed.{Untimed}
use Rattle.ir_core.specs.declared.timed.Timed.{Timed}
use Rattle.cycle_report.specs.declared.report.Cost.{Cost}
use Rattle.cycle_report.specs.FormulaValue.{cycles}
use Rattle.cycle_report.specs.PlainReport.{PlainLoop}
use Rattle.report_rows.specs.Costs.{AreRowsOf}
use Rattle.ir_core.specs.Bodies.{Words}
use Rattle.pass_runs.specs.ConvertRuns.Typed.{Fits}
use Rattle.pass_runs.specs.ConvertRuns.LoweredConversions.Suiting as typing
use Rattle.pass_runs.specs.LowerRuns.Suits.{scope_of}
use Rattle.passes.specs.Lowering.Shapes.{first_point}
use Rattle.timed_pieces.specs.FlatRuns.{Choice, IsLaidOut, has_node}
use Rattle.expanded_pieces.specs.BegunPieces.Points.{begins_at}
use Rattle.clock_ir.specs.ClockRuns.{timed_program, clock_run}
use Rattle.clock_ir.specs.ClockRuns as clock
use Rattle.clock_runs.specs.Laws.{IsEnded, run_cycles}
use Rattle.timed_pieces.specs.Laws.{HasTimes, node_count}
use Rattle.timed_pieces.specs.FormulaCycles.Ends.{LoopsLeadToTheirEnds}
use Rattle.timed_pieces.specs.FormulaCycles.{PassesKept}
use Rattle.timed_pieces.specs.StartedWords.Contents.{Begins, host_words, file_words}
use Rattle.source_answers.specs.SourceRuns.{IsFaultless, expanded}

-- what variables and memories of the program hold has their widths
abbrev pub HaveWidths : ExpandedTree → Words → Type 0
HaveWidths e t = Fits (typing.widths_of (scope_of (frame_of e))) (typing.words_of (scope_of (frame_of e))) t

-- Behind so many cycles the clocked run from these words is at its end, and not before, with this result, and with words that hold these elements in the memories that the host reaches, and this at file scope.
pub record EndsWith (e : ExpandedTree) (timed : Cfg Timed) (t : Words) (count : ℕ) (result : Option ℕ) (arrays : List (List ℕ)) (kept : FileScope) : Type 0 where
  pub words : Words
  pub run : clock_run (timed_program timed) t count ≡ clock.ended result words
  pub sooner : (m : ℕ) → m < count → IsEnded (clock_run (timed_program timed) t m) → ⊥
  pub hosts : host_words e.arrays 0 words.memories ≡ arrays
  pub file : file_words e words ≡ kept
  pub widths : HaveWidths e words

-- What a report's formula asks of a program that is laid out from the pieces of a source: its loops lead to their ends, and each of its nodes begins at a point that is kept, or that no run from these inputs passes.
pub record IsCounted (p : ProgramTree) (top : ℕ) (choice : Choice) (start : Point) (cfg : Cfg Untimed) (kept : FileScope) (scalars : List ℕ) (arrays : List (List ℕ)) : Type 0 where
  pub loops : LoopsLeadToTheirEnds cfg
  pub passes : (first : Store) → IsTyped (frame_of (expanded p top)) first
      → PassesKept (frame_of (expanded p top)) (expanded p top).pieces (started (expanded p top) first kept scalars arrays)
      (has_node (frame_of (expanded p top)) choice (begins_at (expanded p top).pieces) (expanded p top).pieces start) cfg.nodes.items

-- The clocked run from these words answers what the run in C answers: where that ends, it ends one cycle behind the cycles of its nodes, which the formula gives, and it goes on for ever where that does.
pub record AnswersAs (p : ProgramTree) (top : ℕ) (choice : Choice) (start : Point) (cfg : Cfg Untimed) (timed : Cfg Timed) (kept : FileScope) (scalars : List ℕ) (arrays : List (List ℕ)) (t : Words) : Type 0 where
  pub finite : (n : ℕ) (result : Option ℕ) (last : List (List ℕ)) (left : FileScope) (trace : List Point) → c_run p top kept scalars arrays n ≡ ended result last left trace
      → EndsWith (expanded p top) timed t (1 + run_cycles cfg timed t (node_count (frame_of (expanded p top)) choice (begins_at (expanded p top).pieces) (expanded p top).pieces start trace)) result last left
  pub counted : IsCounted p top choice start cfg kept scalars arrays → (rows : List Cost) → AreRowsOf timed.nodes.items rows
      → (n : ℕ) (result : Option ℕ) (last : List (List ℕ)) (left : FileScope) (trace : List Point) → c_run p top kept scalars arrays n ≡ ended result last left trace
      → EndsWith (expanded p top) timed t (cycles 1 rows (tally_of trace)) result last left
  pub endless : ((n : ℕ) → c_run p top kept scalars arrays n ≡ running) → (m : ℕ) → IsEnded (clock_run (timed_program timed) t m) → ⊥

-- Of a source without faults: each program that is laid out and scheduled from its pieces, from the point at which they begin, answers as the source does, for all contents of file scope and all arguments that fit, from all words that begin with them.
abbrev pub SourceProgramsAnswer : Type 0
SourceProgramsAnswer = (source : List ℕ) (p : ProgramTree) (top : ℕ) (name : List ℕ) → IsFaultless source p top name
    → (start : Point) → first_point (expanded p top).pieces ≡ Some start → (choice : Choice) (cfg : Cfg Untimed) → IsLaidOut (frame_of (expanded p top)) choice (expanded p top).pieces start (expanded p top).result cfg
    → (units : Units) (timed : Cfg Timed) (loops : List PlainLoop) → HasTimes units cfg timed loops
    → (kept : FileScope) (scalars : List ℕ) (arrays : List (List ℕ)) (t : Words) → ProgramInputsFit p top kept scalars arrays → Begins (expanded p top) kept scalars arrays t → HaveWidths (expanded p top) t
    → AnswersAs p top choice start cfg timed kept scalars arrays t
