-- The circuits that sources without faults are compiled to.
pub mod Promise
use Rattle.std.specs.Prelude.{◌≡◌, ℕ, List, Some, slice_get, true}
use Rattle.hls_base.specs.declared.settings.Settings.{Settings}
use Rattle.hls_base.specs.declared.settings.Units.{Units}
use Rattle.c_tree.specs.Tree.{FunctionTree, ProgramTree}
use Rattle.c_meaning.specs.Run.{function_at}
use Rattle.ir_core.specs.declared.cfg.Cfg.{Cfg}
use Rattle.ir_core.specs.declared.stamp.Untimed.{Untimed}
use Rattle.ir_lower.specs.Frames.{frame_view}
use Rattle.ir_core.specs.declared.timed.Timed.{Timed}
use Rattle.rtl_core.specs.Netlist.{Netlist}
use Rattle.cycle_report.specs.PlainReport.{PlainLoop, PlainReport}
use Rattle.program_validity.specs.Programs.{is_valid}
use Rattle.compile_steps.specs.Flat.{Passes, IsFlatOf}
use Rattle.compile_steps.specs.Resets.{expanded_frame}
use Rattle.compile_steps.specs.Reports.{IsTimed, IsReportOf}
use Rattle.promises.specs.Circuits.{HasCircuit}
use Rattle.source_answers.specs.SourceRuns.{IsFaultless, expanded}
use Rattle.promises.specs.DesignPromise.Promise.{KeepsPromise}

-- Of a source without faults, with this top function: what its program with times is built as keeps the promise with the report of this program.
abbrev pub DesignsKeepPromise : Type 0
DesignsKeepPromise = (source : List ℕ) (p : ProgramTree) (top : ℕ) (name : List ℕ) → IsFaultless source p top name → (function : FunctionTree) → function_at (slice_get p.items top) ≡ Some function
    → (passes : Passes) (untimed : Cfg Untimed) (flat_ : IsFlatOf (expanded p top) passes untimed) → is_valid flat_.unfused ≡ true
    → (units : Units) (timed : Cfg Timed) (loops : List PlainLoop) → IsTimed units untimed timed loops → frame_view timed.frame ≡ expanded_frame (expanded p top)
    → (report : PlainReport) (settings : Settings) (d : Netlist) → IsReportOf report settings timed d → HasCircuit timed d → KeepsPromise p top name function report d
