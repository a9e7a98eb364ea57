-- Laid out programs are sound, so schedules keep their runs.
use Rattle.std.specs.Prelude.{Bool, Option, List}
use Rattle.hls_base.specs.declared.number.VarId.{VarId}
use Rattle.hls_base.specs.declared.point.Point.{Point}
use Rattle.hls_base.specs.declared.settings.Units.{Units}
use Rattle.ir_core.specs.declared.cfg.Cfg.{Cfg}
use Rattle.ir_core.specs.declared.stamp.Untimed.{Untimed}
use Rattle.ir_core.specs.declared.timed.Timed.{Timed}
use Rattle.cycle_report.specs.PlainReport.{PlainLoop}
use Rattle.pieces.specs.Trees.{PieceTrees}
use Rattle.c_meaning.specs.PieceRuns.Values.{Store}
use Rattle.c_meaning.specs.PieceRuns.Pieces.{Frame}
use Rattle.ir_core.specs.Bodies.{Words}
use Rattle.pass_runs.specs.ConvertRuns.Typed.{Fits}
use Rattle.pass_runs.specs.ConvertRuns.LoweredConversions.Suiting as typing
use Rattle.pass_runs.specs.LowerRuns.Suits.{scope_of}
use Rattle.pass_runs.specs.LowerRuns.Holding.{Holds, none_hidden}
use Rattle.timed_pieces.specs.FlatRuns.{Choice, IsFine, IsLaidOut}
use Rattle.clock_runs.specs.Premises.{IsSoundProgram}
use Rattle.timed_pieces.specs.Laws.{HasTimes, ClockKeepsRun}
use Rattle.sound_trees.specs.Subscripts.{PiecesSubscriptsFit}

abbrev pub LaidOutProgramsAreSound : Type 0
LaidOutProgramsAreSound = (f : Frame) (choice : Choice) (kept : Point → Bool) (pieces : PieceTrees) (point : Point) (returned : Option VarId) (cfg : Cfg Untimed)
    → IsFine f kept pieces point → PiecesSubscriptsFit f.arrays pieces → IsLaidOut f choice pieces point returned cfg → IsSoundProgram cfg

abbrev pub ScheduledProgramsKeepRuns : Type 0
ScheduledProgramsKeepRuns = (f : Frame) (choice : Choice) (kept : Point → Bool) (pieces : PieceTrees) (point : Point) (returned : Option VarId) (cfg : Cfg Untimed)
    → IsFine f kept pieces point → PiecesSubscriptsFit f.arrays pieces → IsLaidOut f choice pieces point returned cfg
    → (units : Units) (timed : Cfg Timed) (rows : List PlainLoop) → HasTimes units cfg timed rows
    → (s : Store) (t : Words) → Holds f none_hidden s t → Fits (typing.widths_of (scope_of f)) (typing.words_of (scope_of f)) t
    → ClockKeepsRun f choice kept pieces point returned cfg timed s t
