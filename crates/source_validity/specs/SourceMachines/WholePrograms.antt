-- Compiled programs have what a clock machine takes for granted.
pub mod Machines
use Rattle.std.specs.Prelude.{Bool, List, Option}
use Rattle.hls_base.specs.declared.number.VarId.{VarId}
use Rattle.hls_base.specs.declared.point.Point.{Point}
use Rattle.hls_base.specs.declared.settings.Units.{Units}
use Rattle.ir_core.specs.declared.cfg.Cfg.{Cfg}
use Rattle.ir_core.specs.declared.stamp.Untimed.{Untimed}
use Rattle.ir_core.specs.declared.timed.Timed.{Timed}
use Rattle.cycle_report.specs.PlainReport.{PlainLoop}
use Rattle.pieces.specs.Trees.{PieceTrees}
use Rattle.c_meaning.specs.PieceRuns.Pieces.{Frame}
use Rattle.flat_programs.specs.Machine.Rest.{IsWhole}
use Rattle.timed_pieces.specs.FlatRuns.{Choice, IsFine, IsLaidOut}
use Rattle.sound_trees.specs.Subscripts.{PiecesSubscriptsFit}
use Rattle.clock_ir.specs.ClockRuns.{timed_program}
use Rattle.clock_ir.specs.WellTimed.{IsWellTimed}
use Rattle.clock_machine.specs.Lines.Regions.{IsOrderlyProgram}
use Rattle.clock_machine.specs.Standing.{IsWholeProgram, IsSteadyProgram}
use Rattle.clock_runs.specs.Premises.{IsSoundProgram}
use Rattle.timed_pieces.specs.Laws.{HasTimes}

-- The program names what is there, and its times are within what a machine counts.
pub record IsReady (timed : Cfg Timed) : Type 0 where
  pub orderly : IsOrderlyProgram timed
  pub whole : IsWholeProgram (timed_program timed)
  pub steady : IsSteadyProgram (timed_program timed)

abbrev pub WellTimedIsReady : Type 0
WellTimedIsReady = (cfg : Cfg Untimed) (timed : Cfg Timed) → IsWhole cfg → IsSoundProgram cfg → IsWellTimed cfg timed → IsReady timed

abbrev pub ScheduledIsReady : Type 0
ScheduledIsReady = (f : Frame) (choice : Choice) (kept : Point → Bool) (pieces : PieceTrees) (point : Point) (returned : Option VarId) (cfg : Cfg Untimed)
    → IsFine f kept pieces point → PiecesSubscriptsFit f.arrays pieces → IsLaidOut f choice pieces point returned cfg
    → (units : Units) (timed : Cfg Timed) (rows : List PlainLoop) → HasTimes units cfg timed rows → IsReady timed
