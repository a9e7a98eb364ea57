-- The clocked run of a source takes the cycles that the formula of its report gives.
use Rattle.std.specs.Prelude.{◌≡◌, ℕ, List, Option}
use Rattle.hls_base.specs.FileScope.{FileScope}
use Rattle.hls_base.specs.declared.point.Point.{Point}
use Rattle.hls_base.specs.declared.settings.Units.{Units}
use Rattle.c_tree.specs.Tree.{ProgramTree}
use Rattle.c_meaning.specs.Points.{tally_of}
use Rattle.c_meaning.specs.Run.{c_run, ended, running}
use Rattle.c_meaning.specs.PieceRuns.Values.{Store}
use Rattle.c_meaning.specs.PieceRuns.Runs.{frame_of, started}
use Rattle.expand_runs.specs.Reading.{IsTyped}
use Rattle.expanded_programs.specs.ElaboratedPrograms.Inputs.{ProgramInputsFit}
use Rattle.ir_core.specs.declared.cfg.Cfg.{Cfg}
use Rattle.ir_core.specs.declared.stamp.Untimed.{Untimed}
use Rattle.ir_core.specs.declared.timed.Timed.{Timed}
use Rattle.cycle_report.specs.declared.report.Cost.{Cost}
use Rattle.cycle_report.specs.FormulaValue.{cycles}
use Rattle.cycle_report.specs.PlainReport.{PlainLoop}
use Rattle.report_rows.specs.Costs.{AreRowsOf}
use Rattle.ir_core.specs.Bodies.{Words}
use Rattle.pass_runs.specs.ConvertRuns.Typed.{Fits}
use Rattle.pass_runs.specs.ConvertRuns.LoweredConversions.Suiting as typing
use Rattle.pass_runs.specs.LowerRuns.Suits.{scope_of}
use Rattle.pass_runs.specs.LowerRuns.Holding.{Holds, none_hidden}
use Rattle.timed_pieces.specs.FlatRuns.{Choice, IsLaidOut}
use Rattle.clock_ir.specs.ClockRuns.{timed_program, clock_run}
use Rattle.clock_runs.specs.Laws.{IsEnded}
use Rattle.timed_pieces.specs.Laws.{HasTimes}
use Rattle.source_answers.specs.SourceRuns.{IsFaultless, expanded, EndsAs}

-- The clocked run from words that show where a run in C begins is that run: it ends where that ends, after exactly the cycles that these rows give for how often that passes each point, and goes on for ever where that does.
pub record RunsInCycles (p : ProgramTree) (top : ℕ) (timed : Cfg Timed) (rows : List Cost) (kept : FileScope) (scalars : List ℕ) (arrays : List (List ℕ)) (t : Words) : Type 0 where
  pub finite : (n : ℕ) (result : Option ℕ) (last : List (List ℕ)) (left : FileScope) (trace : List Point) → c_run p top kept scalars arrays n ≡ ended result last left trace
      → EndsAs (expanded p top) timed t (cycles 1 rows (tally_of trace)) result last left
  pub endless : ((n : ℕ) → c_run p top kept scalars arrays n ≡ running) → (m : ℕ) → IsEnded (clock_run (timed_program timed) t m) → ⊥

-- Of a source without faults: there is a point at which its pieces begin, and each program that is laid out and scheduled from them runs as the source does, in the cycles that the rows of its formula give, for all contents of file scope and all arguments that fit, from all words that show them.
abbrev pub SourceFormulaCounts : Type 0
SourceFormulaCounts = (source : List ℕ) (p : ProgramTree) (top : ℕ) (name : List ℕ) → IsFaultless source p top name
    → (start : Point) × ((choice : Choice) (cfg : Cfg Untimed) → IsLaidOut (frame_of (expanded p top)) choice (expanded p top).pieces start (expanded p top).result cfg
    → (units : Units) (timed : Cfg Timed) (loops : List PlainLoop) → HasTimes units cfg timed loops → (rows : List Cost) → AreRowsOf timed.nodes.items rows
    → (first : Store) (kept : FileScope) (scalars : List ℕ) (arrays : List (List ℕ)) (t : Words) → IsTyped (frame_of (expanded p top)) first → ProgramInputsFit p top kept scalars arrays
    → Holds (frame_of (expanded p top)) none_hidden (started (expanded p top) first kept scalars arrays) t → Fits (typing.widths_of (scope_of (frame_of (expanded p top)))) (typing.words_of (scope_of (frame_of (expanded p top)))) t
    → RunsInCycles p top timed rows kept scalars arrays t)
