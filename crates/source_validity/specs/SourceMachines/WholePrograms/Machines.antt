-- Where machines end in the clocked runs of programs.
use Rattle.std.specs.Prelude.{◌≡◌, ◌+◌, ◌<◌, ◌≤◌, ◌↔◌, ℕ, Bool, List, Option}
use Rattle.hls_base.specs.declared.number.VarId.{VarId}
use Rattle.hls_base.specs.declared.point.Point.{Point}
use Rattle.hls_base.specs.declared.settings.Units.{Units}
use Rattle.ir_core.specs.declared.cfg.Cfg.{Cfg}
use Rattle.ir_core.specs.declared.stamp.Untimed.{Untimed}
use Rattle.ir_core.specs.declared.timed.Timed.{Timed}
use Rattle.cycle_report.specs.PlainReport.{PlainLoop}
use Rattle.ir_core.specs.declared.machine.Halt.TheVariants as halt
use Rattle.ir_core.specs.Halts.{HasHalted}
use Rattle.pieces.specs.Trees.{PieceTrees}
use Rattle.hls_base.specs.Steps.{ran, went, waiting}
use Rattle.c_meaning.specs.PieceRuns.Values.{Store}
use Rattle.c_meaning.specs.PieceRuns.Pieces as p
use Rattle.c_meaning.specs.PieceRuns.Pieces.{Frame, pieces_run}
use Rattle.ir_core.specs.Bodies.{Words}
use Rattle.pass_runs.specs.ConvertRuns.Typed.{Fits}
use Rattle.pass_runs.specs.ConvertRuns.LoweredConversions.Suiting as typing
use Rattle.pass_runs.specs.LowerRuns.Suits.{scope_of}
use Rattle.pass_runs.specs.LowerRuns.Holding.{Holds, none_hidden}
use Rattle.timed_pieces.specs.FlatRuns.{Choice, IsFine, IsLaidOut, AreDone}
use Rattle.sound_trees.specs.Subscripts.{PiecesSubscriptsFit}
use Rattle.clock_ir.specs.ClockRuns.{TimedProgram, timed_program, clock_run}
use Rattle.clock_runs.specs.Laws.{IsEnded, run_cycles}
use Rattle.clock_machine.specs.declared.machine.ClockMachine.{ClockMachine}
use Rattle.clock_machine.specs.declared.state.Position.TheVariants as position
use Rattle.clock_machine.specs.Halts.{halt_at}
use Rattle.clock_machine.specs.Runs.{IsBehind, RunEndsAfter}
use Rattle.clock_machine.specs.Starts.{words_of}
use Rattle.timed_pieces.specs.Laws.{HasTimes, node_count}

-- a machine at its end, with this word and these contents
pub record IsAtEnd (word : Option ℕ) (words : Words) (m : ClockMachine) : Type 0 where
  pub position : m.state.position ≡ position.Ended
  pub returned : m.state.returned ≡ word
  pub words_are : words_of m.state ≡ words

-- A machine that stands in the run is at its end from so many edges on, and runs before.
pub record MachinesEndAfter (program : TimedProgram) (t : Words) (edges : ℕ) (word : Option ℕ) (words : Words) : Type 0 where
  pub at_end : (n : ℕ) (m : ClockMachine) → IsBehind program t n m → edges ≤ n → IsAtEnd word words m
  pub before : (n : ℕ) (m : ClockMachine) → IsBehind program t n m → n < edges → halt_at m.state.position ≡ halt.Running

-- ---- laws

abbrev pub MachineHaltsAtEnd : Type 0
MachineHaltsAtEnd = (program : TimedProgram) (t : Words) (n : ℕ) (m : ClockMachine) → IsBehind program t n m → HasHalted (halt_at m.state.position) ↔ IsEnded (clock_run program t n)

abbrev pub EndedRunsEndMachines : Type 0
EndedRunsEndMachines = (program : TimedProgram) (t : Words) (edges : ℕ) (word : Option ℕ) (words : Words) → RunEndsAfter program t edges word words → MachinesEndAfter program t edges word words

-- a run ends after one number of edges, with one word and contents
abbrev pub RunsEndOnce : Type 0
RunsEndOnce = (program : TimedProgram) (t : Words) (a b : ℕ) (v w : Option ℕ) (x y : Words) → RunEndsAfter program t a v x → RunEndsAfter program t b w y → (a ≡ b) × (v ≡ w) × (x ≡ y)

-- Where the pieces' run ends, the clocked run and each machine in it end with the word of the result and words that show the store, after one cycle more than those of its nodes, and no sooner. Where the pieces' run never ends, no machine does.
pub record MachinesKeepRun (f : Frame) (choice : Choice) (kept : Point → Bool) (pieces : PieceTrees) (point : Point) (returned : Option VarId) (cfg : Cfg Untimed) (timed : Cfg Timed) (s : Store) (t : Words) : Type 0 where
  pub finite : (n left : ℕ) (trace : List Point) (way : p.Way) (last : Store) → pieces_run f pieces s n ≡ ran trace (went way last left)
      → (word : Option ℕ) × (words : Words) × AreDone f returned way last word words
      × RunEndsAfter (timed_program timed) t (1 + run_cycles cfg timed t (node_count f choice kept pieces point trace)) word words
      × MachinesEndAfter (timed_program timed) t (1 + run_cycles cfg timed t (node_count f choice kept pieces point trace)) word words
  pub endless : ((n : ℕ) → (pieces_run f pieces s n).outcome ≡ waiting) → (n : ℕ) (m : ClockMachine) → IsBehind (timed_program timed) t n m → halt_at m.state.position ≡ halt.Running

abbrev pub ScheduledMachinesKeepRuns : Type 0
ScheduledMachinesKeepRuns = (f : Frame) (choice : Choice) (kept : Point → Bool) (pieces : PieceTrees) (point : Point) (returned : Option VarId) (cfg : Cfg Untimed)
    → IsFine f kept pieces point → PiecesSubscriptsFit f.arrays pieces → IsLaidOut f choice pieces point returned cfg
    → (units : Units) (timed : Cfg Timed) (rows : List PlainLoop) → HasTimes units cfg timed rows
    → (s : Store) (t : Words) → Holds f none_hidden s t → Fits (typing.widths_of (scope_of f)) (typing.words_of (scope_of f)) t
    → MachinesKeepRun f choice kept pieces point returned cfg timed s t
