-- What compiled programs answer, and in how many cycles.
use Rattle.std.specs.Prelude.{◌≡◌, ℕ, true, List, Option}
use Rattle.hls_base.specs.FileScope.{FileScope}
use Rattle.hls_base.specs.declared.point.Point.{Point}
use Rattle.hls_base.specs.declared.settings.Units.{Units}
use Rattle.c_tree.specs.Tree.{ProgramTree}
use Rattle.c_meaning.specs.Points.{tally_of}
use Rattle.c_meaning.specs.Run.{c_run, ended, running}
use Rattle.expanded_programs.specs.ElaboratedPrograms.Inputs.{ProgramInputsFit}
use Rattle.ir_core.specs.declared.cfg.Cfg.{Cfg}
use Rattle.ir_core.specs.declared.stamp.Untimed.{Untimed}
use Rattle.ir_lower.specs.Frames.{frame_view}
use Rattle.ir_core.specs.declared.timed.Timed.{Timed}
use Rattle.cycle_report.specs.declared.report.Cost.{Cost}
use Rattle.cycle_report.specs.FormulaValue.{cycles}
use Rattle.cycle_report.specs.PlainReport.{PlainLoop}
use Rattle.report_rows.specs.Costs.{AreRowsOf}
use Rattle.ir_core.specs.Bodies.{Words}
use Rattle.clock_ir.specs.ClockRuns.{timed_program, clock_run}
use Rattle.clock_runs.specs.Laws.{IsEnded}
use Rattle.program_validity.specs.Programs.{is_valid}
use Rattle.compile_steps.specs.Flat.{Passes, IsFlatOf}
use Rattle.compile_steps.specs.Resets.{expanded_frame}
use Rattle.compile_steps.specs.Reports.{IsTimed}
use Rattle.timed_pieces.specs.StartedWords.Contents.{Begins}
use Rattle.source_answers.specs.SourceRuns.{IsFaultless, expanded}
use Rattle.source_answers.specs.Laws.{HaveWidths, EndsWith}

-- From all words that begin with these inputs the clocked run answers what the run in C answers: where that ends, it ends with the same result, elements and contents of file scope, after exactly the cycles that the rows give for how often that passes each point, and no sooner; and it goes on for ever where that does.
pub record AnswersInCycles (p : ProgramTree) (top : ℕ) (timed : Cfg Timed) (rows : List Cost) (kept : FileScope) (scalars : List ℕ) (arrays : List (List ℕ)) (t : Words) : Type 0 where
  pub finite : (n : ℕ) (result : Option ℕ) (last : List (List ℕ)) (left : FileScope) (trace : List Point) → c_run p top kept scalars arrays n ≡ ended result last left trace
      → EndsWith (expanded p top) timed t (cycles 1 rows (tally_of trace)) result last left
  pub endless : ((n : ℕ) → c_run p top kept scalars arrays n ≡ running) → (m : ℕ) → IsEnded (clock_run (timed_program timed) t m) → ⊥

-- so it is for all contents of file scope and all arguments that fit
abbrev pub AnswersAlways : ProgramTree → ℕ → Cfg Timed → List Cost → Type 0
AnswersAlways p top timed rows = (kept : FileScope) (scalars : List ℕ) (arrays : List (List ℕ)) (t : Words) → ProgramInputsFit p top kept scalars arrays
    → Begins (expanded p top) kept scalars arrays t → HaveWidths (expanded p top) t → AnswersInCycles p top timed rows kept scalars arrays t

-- Of a source without faults: the program with times that its flat program gets, in the frame of the expanded program, answers as the source does, in the cycles of the report's rows.
abbrev pub CompiledProgramsAnswer : Type 0
CompiledProgramsAnswer = (source : List ℕ) (p : ProgramTree) (top : ℕ) (name : List ℕ) → IsFaultless source p top name → (passes : Passes) (untimed : Cfg Untimed) (flat_ : IsFlatOf (expanded p top) passes untimed) → is_valid flat_.unfused ≡ true
    → (units : Units) (timed : Cfg Timed) (loops : List PlainLoop) → IsTimed units untimed timed loops → frame_view timed.frame ≡ expanded_frame (expanded p top)
    → (rows : List Cost) → AreRowsOf timed.nodes.items rows → AnswersAlways p top timed rows
