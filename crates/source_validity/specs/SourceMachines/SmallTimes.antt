-- How late operations start.
pub mod NearOuts
pub mod Examples
use Rattle.std.specs.Prelude.{List}
use Rattle.std.specs.List.{All}
use Rattle.hls_base.specs.declared.settings.Units.{Units}
use Rattle.ir_core.specs.declared.cfg.Cfg.{Cfg}
use Rattle.ir_core.specs.declared.stamp.Untimed.{Untimed}
use Rattle.ir_core.specs.declared.timed.Timed.{Timed}
use Rattle.cycle_report.specs.PlainReport.{PlainLoop}
use Rattle.report_rows.specs.ForwardNodes.{HasForwardBody}
use Rattle.reg_binding.specs.SmallTimes.{HasSmallTimes}
use Rattle.compile_steps.specs.Reports.{IsTimed}
use Rattle.program_sizes.specs.CompiledSizes.{IsSmallProgram}
use Rattle.source_validity.specs.SourceMachines.SmallTimes.NearOuts.{OutsAreNear}

-- A small program that can be given times, and whose outs and tests are near, has small times once it has them, on any units: the least times have no gap that is longer than an operation takes.
abbrev pub TimedProgramsHaveSmallTimes : Type 0
TimedProgramsHaveSmallTimes = (units : Units) (untimed : Cfg Untimed) (timed : Cfg Timed) (rows : List PlainLoop) → IsSmallProgram untimed → All HasForwardBody untimed.nodes.items → OutsAreNear untimed
    → IsTimed units untimed timed rows → HasSmallTimes timed
