-- How long runs take by the formula of a report.
use Rattle.std.specs.Prelude.{◌≡◌, ◌≤◌, ℕ, Bool, List, Option, Some}
use Rattle.hls_base.specs.FileScope.{FileScope}
use Rattle.hls_base.specs.declared.point.Point.{Point}
use Rattle.hls_base.specs.declared.settings.Units.{Units}
use Rattle.c_tree.specs.Tree.{ProgramTree}
use Rattle.c_meaning.specs.Checks.Programs.{top_name}
use Rattle.c_meaning.specs.Points.{tally_of}
use Rattle.c_meaning.specs.Run.{c_run, ended}
use Rattle.c_elaborate.specs.Programs.{program_elaborated}
use Rattle.c_expand.specs.Expansion.{expansion}
use Rattle.ir_core.specs.declared.cfg.Cfg.{Cfg}
use Rattle.ir_core.specs.declared.stamp.Untimed.{Untimed}
use Rattle.ir_core.specs.declared.timed.Timed.{Timed}
use Rattle.cycle_report.specs.FormulaValue.{cycles}
use Rattle.cycle_report.specs.PlainReport.{PlainLoop, PlainReport}
use Rattle.compile_steps.specs.Flat.{Passes, IsFlatOf}
use Rattle.compile_steps.specs.Reports.{IsTimed, EachNodeCounts}

-- Each run in C that ends takes at least two cycles by the report's formula, from all contents of file scope and with all arguments.
abbrev pub RunsAreLong : ProgramTree → ℕ → PlainReport → Type 0
RunsAreLong p top report = (kept : FileScope) (scalars : List ℕ) (arrays : List (List ℕ)) (n : ℕ) (result : Option ℕ) (last : List (List ℕ)) (left : FileScope) (trace : List Point)
    → c_run p top kept scalars arrays n ≡ ended result last left trace → 2 ≤ cycles report.base report.rows (tally_of trace)

-- So it is where the top function has a body, and the report counts each node of the program with times that the flat program gets.
abbrev pub EndedRunsAreLong : Type 0
EndedRunsAreLong = (p : ProgramTree) (top : ℕ) (name : List ℕ) → top_name p top ≡ Some name → (passes : Passes) (untimed : Cfg Untimed) → IsFlatOf (expansion (program_elaborated p top)) passes untimed
    → (units : Units) (timed : Cfg Timed) (loops : List PlainLoop) → IsTimed units untimed timed loops → (report : PlainReport) → EachNodeCounts timed.nodes.items report → RunsAreLong p top report
