-- A program that was scheduled is well timed, so cycle by cycle it does what its blocks do one after another.
use Rattle.std.specs.Prelude.{◌≡◌, List}
use Rattle.hls_base.specs.declared.settings.Units.{Units}
use Rattle.ir_core.specs.declared.cfg.Cfg.{Cfg}
use Rattle.ir_core.specs.declared.stamp.Untimed.{Untimed}
use Rattle.ir_lower.specs.Frames.{frame_view}
use Rattle.ir_core.specs.declared.timed.Timed.{Timed}
use Rattle.cycle_report.specs.PlainReport.{PlainLoop}
use Rattle.report_rows.specs.Timing.{AreTimedAs}
use Rattle.ir_core.specs.Bodies.{Words}
use Rattle.clock_ir.specs.WellTimed.{IsWellTimed}
use Rattle.clock_runs.specs.Premises.{IsSoundProgram}
use Rattle.clock_runs.specs.Laws.{KeepsRun}

-- the program with the times that its blocks and loops were given
abbrev pub ScheduledIsWellTimed : Type 0
ScheduledIsWellTimed =
    (units : Units) (cfg : Cfg Untimed) (timed : Cfg Timed) (rows : List PlainLoop)
    → frame_view timed.frame ≡ frame_view cfg.frame → timed.first ≡ cfg.first → AreTimedAs cfg.frame.memories.items units cfg.nodes.items timed.nodes.items rows
    → IsWellTimed cfg timed

-- from all contents, where the program is sound
abbrev pub ScheduledKeepsRuns : Type 0
ScheduledKeepsRuns =
    (units : Units) (cfg : Cfg Untimed) (timed : Cfg Timed) (rows : List PlainLoop)
    → frame_view timed.frame ≡ frame_view cfg.frame → timed.first ≡ cfg.first → AreTimedAs cfg.frame.memories.items units cfg.nodes.items timed.nodes.items rows
    → IsSoundProgram cfg → (t : Words) → KeepsRun cfg timed t
