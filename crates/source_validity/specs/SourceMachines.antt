-- What holds of the machines of sources.
pub mod ForwardPrograms
pub mod SmallTimes
pub mod WholePrograms
use Rattle.std.specs.Prelude.{◌≡◌, ℕ, List, length, Option, Some}
use Rattle.hls_base.specs.FileScope.{FileScope}
use Rattle.hls_base.specs.declared.point.Point.{Point}
use Rattle.hls_base.specs.declared.settings.Units.{Units}
use Rattle.c_tree.specs.Tree.{ProgramTree}
use Rattle.cycle_report.specs.PlainReport.{PlainLoop}
use Rattle.pieces.specs.Program.{ExpandedTree}
use Rattle.c_meaning.specs.PieceRuns.Runs.{frame_of}
use Rattle.ir_core.specs.declared.cfg.Cfg.{Cfg}
use Rattle.ir_core.specs.declared.cfg.Frame.{Frame}
use Rattle.ir_core.specs.declared.stamp.Untimed.{Untimed}
use Rattle.passes.specs.Lowering.Shapes.{first_point}
use Rattle.ir_core.specs.declared.timed.Timed.{Timed}
use Rattle.ir_core.specs.Bodies.{Words}
use Rattle.timed_pieces.specs.FlatRuns.{Choice, IsLaidOut}
use Rattle.timed_pieces.specs.Laws.{HasTimes}
use Rattle.clock_ir.specs.ClockRuns.{timed_program}
use Rattle.clock_machine.specs.Starts.{IsNamed}
use Rattle.source_answers.specs.SourceRuns.{IsFaultless, expanded, EndsAs}
use Rattle.source_validity.specs.SourceMachines.WholePrograms.{IsReady}
use Rattle.source_validity.specs.SourceMachines.WholePrograms.Machines.{MachinesEndAfter}

abbrev pub SourceProgramsAreReady : Type 0
SourceProgramsAreReady = (source : List ℕ) (p : ProgramTree) (top : ℕ) (name : List ℕ) → IsFaultless source p top name
    → (choice : Choice) (start : Point) (cfg : Cfg Untimed) → first_point (expanded p top).pieces ≡ Some start → IsLaidOut (frame_of (expanded p top)) choice (expanded p top).pieces start (expanded p top).result cfg
    → (units : Units) (timed : Cfg Timed) (rows : List PlainLoop) → HasTimes units cfg timed rows → IsReady timed

-- what stands beside the blocks of an expanded program: its parameters, the scalars that file scope keeps, and as many variables
pub record IsFrameOf (e : ExpandedTree) (frame : Frame) : Type 0 where
  pub params : frame.params.items ≡ e.params
  pub kept : frame.kept.items ≡ e.kept
  pub variables : length frame.variables.items ≡ length e.variables

abbrev pub SourceFramesAreNamed : Type 0
SourceFramesAreNamed = (source : List ℕ) (p : ProgramTree) (top : ℕ) (name : List ℕ) → IsFaultless source p top name → (frame : Frame) → IsFrameOf (expanded p top) frame → IsNamed frame

abbrev pub EndedSourcesEndMachines : Type 0
EndedSourcesEndMachines = (e : ExpandedTree) (timed : Cfg Timed) (t : Words) (cycles : ℕ) (result : Option ℕ) (arrays : List (List ℕ)) (kept : FileScope)
    → (ends : EndsAs e timed t cycles result arrays kept) → MachinesEndAfter (timed_program timed) t cycles ends.word ends.words
