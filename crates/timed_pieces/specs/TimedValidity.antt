-- Giving times changes nothing that validity speaks of.
use Rattle.std.specs.Prelude.{◌≡◌, List}
use Rattle.hls_base.specs.declared.settings.Units.{Units}
use Rattle.ir_core.specs.declared.cfg.Cfg.{Cfg}
use Rattle.ir_core.specs.declared.cfg.Memory.{Memory}
use Rattle.ir_core.specs.declared.stamp.Untimed.{Untimed}
use Rattle.ir_lower.specs.Frames.{frame_view}
use Rattle.ir_core.specs.declared.timed.Timed.{Timed}
use Rattle.cycle_report.specs.PlainReport.{PlainLoop}
use Rattle.report_rows.specs.Timing.{AreTimedAs}
use Rattle.program_validity.specs.Programs.{is_valid}

-- A program whose nodes were given times, beside the same frame, is valid exactly where it was valid without them.
abbrev pub TimesKeepValidity : Type 0
TimesKeepValidity = (memories : List Memory) (units : Units) (untimed : Cfg Untimed) (timed : Cfg Timed) (rows : List PlainLoop)
    → frame_view timed.frame ≡ frame_view untimed.frame → timed.first ≡ untimed.first → AreTimedAs memories units untimed.nodes.items timed.nodes.items rows
    → is_valid timed ≡ is_valid untimed
