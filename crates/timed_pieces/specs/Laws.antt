-- What the passes on blocks and the schedule keep together.
use Rattle.std.specs.Prelude.{◌≡◌, ◌+◌, ◌<◌, ℕ, Bool, List, length, Option}
use Rattle.std.specs.List.{filter}
use Rattle.hls_base.specs.declared.number.VarId.{VarId}
use Rattle.hls_base.specs.declared.point.Point.{Point}
use Rattle.hls_base.specs.declared.settings.Units.{Units}
use Rattle.ir_core.specs.declared.cfg.Cfg.{Cfg}
use Rattle.ir_core.specs.declared.stamp.Untimed.{Untimed}
use Rattle.ir_lower.specs.Frames.{frame_view}
use Rattle.ir_core.specs.declared.timed.Timed.{Timed}
use Rattle.cycle_report.specs.PlainReport.{PlainLoop}
use Rattle.report_rows.specs.Timing.{AreTimedAs}
use Rattle.pieces.specs.Trees.{PieceTrees}
use Rattle.hls_base.specs.Steps.{ran, went, waiting}
use Rattle.c_meaning.specs.PieceRuns.Values.{Store}
use Rattle.c_meaning.specs.PieceRuns.Pieces as p
use Rattle.c_meaning.specs.PieceRuns.Pieces.{Frame, pieces_run}
use Rattle.ir_core.specs.Bodies.{Words}
use Rattle.pass_runs.specs.ConvertRuns.Typed.{Fits}
use Rattle.pass_runs.specs.ConvertRuns.LoweredConversions.Suiting as typing
use Rattle.pass_runs.specs.LowerRuns.Suits.{scope_of}
use Rattle.pass_runs.specs.LowerRuns.Holding.{Holds, none_hidden}
use Rattle.timed_pieces.specs.FlatRuns.{Choice, IsFine, IsLaidOut, has_node, AreDone}
use Rattle.clock_ir.specs.ClockRuns.{ended, timed_program, clock_run}
use Rattle.clock_runs.specs.Premises.{IsSoundProgram}
use Rattle.clock_runs.specs.Laws.{IsEnded, run_cycles}

-- the program with the times that its blocks and loops were given
pub record HasTimes (units : Units) (cfg : Cfg Untimed) (timed : Cfg Timed) (rows : List PlainLoop) : Type 0 where
  pub frame : frame_view timed.frame ≡ frame_view cfg.frame
  pub first : timed.first ≡ cfg.first
  pub nodes : AreTimedAs cfg.frame.memories.items units cfg.nodes.items timed.nodes.items rows

-- how often the pieces' run comes to points that have nodes
abbrev pub node_count : Frame → Choice → (Point → Bool) → PieceTrees → Point → List Point → ℕ
node_count f choice kept pieces point trace = length (filter (has_node f choice kept pieces point) trace)

-- Where the pieces' run ends, the clocked run ends with the word of the result and words that show the store, after one cycle more than those of its nodes, and no sooner. Where the pieces' run never ends, neither does the clocked run.
pub record ClockKeepsRun (f : Frame) (choice : Choice) (kept : Point → Bool) (pieces : PieceTrees) (point : Point) (returned : Option VarId) (cfg : Cfg Untimed) (timed : Cfg Timed) (s : Store) (t : Words) : Type 0 where
  pub finite : (n left : ℕ) (trace : List Point) (way : p.Way) (last : Store) → pieces_run f pieces s n ≡ ran trace (went way last left)
      → (word : Option ℕ) × (words : Words) × AreDone f returned way last word words
      × (clock_run (timed_program timed) t (1 + run_cycles cfg timed t (node_count f choice kept pieces point trace)) ≡ ended word words)
      × ((m : ℕ) → m < 1 + run_cycles cfg timed t (node_count f choice kept pieces point trace) → IsEnded (clock_run (timed_program timed) t m) → ⊥)
  pub endless : ((n : ℕ) → (pieces_run f pieces s n).outcome ≡ waiting) → (m : ℕ) → IsEnded (clock_run (timed_program timed) t m) → ⊥

abbrev pub ScheduledPiecesKeepRuns : Type 0
ScheduledPiecesKeepRuns = (f : Frame) (choice : Choice) (kept : Point → Bool) (pieces : PieceTrees) (point : Point) (returned : Option VarId) (cfg : Cfg Untimed)
    → IsFine f kept pieces point → IsLaidOut f choice pieces point returned cfg
    → (units : Units) (timed : Cfg Timed) (rows : List PlainLoop) → HasTimes units cfg timed rows → IsSoundProgram cfg
    → (s : Store) (t : Words) → Holds f none_hidden s t → Fits (typing.widths_of (scope_of f)) (typing.words_of (scope_of f)) t
    → ClockKeepsRun f choice kept pieces point returned cfg timed s t
