-- What is kept from the source to the clocked run.
pub mod FinePieces
pub mod SourceTypes
pub mod ElaboratedSubscripts
use Rattle.std.specs.Prelude.{◌≡◌, ◌+◌, ◌<◌, ℕ, Bool, List, [], Option, Some}
use Rattle.hls_base.specs.FileScope.{FileScope}
use Rattle.hls_base.specs.declared.place.Place.{Place}
use Rattle.hls_base.specs.declared.point.Point.{Point}
use Rattle.hls_base.specs.declared.settings.Units.{Units}
use Rattle.c_token.specs.declared.token.Token.{Token}
use Rattle.c_token.specs.SourceText.{Spells}
use Rattle.c_token.specs.Replacement.{Becomes}
use Rattle.c_tree.specs.Terminals.{terminals}
use Rattle.c_tree.specs.Tree.{ProgramTree}
use Rattle.c_tree.specs.Grammar.{DerivesProgram}
use Rattle.c_meaning.specs.Checks.Programs.{top_name, program_faults}
use Rattle.c_meaning.specs.Run.{c_run, ended, running}
use Rattle.c_elaborate.specs.Programs.{program_elaborated}
use Rattle.c_expand.specs.Expansion.{expansion}
use Rattle.pieces.specs.Program.{ExpandedTree}
use Rattle.c_meaning.specs.PieceRuns.Values.{Store}
use Rattle.c_meaning.specs.PieceRuns.Runs.{frame_of, started, result_word, host_arrays, kept_of}
use Rattle.expand_runs.specs.Reading.{IsTyped}
use Rattle.expanded_programs.specs.ElaboratedPrograms.Inputs.{ProgramInputsFit}
use Rattle.ir_core.specs.declared.cfg.Cfg.{Cfg}
use Rattle.ir_core.specs.declared.stamp.Untimed.{Untimed}
use Rattle.ir_core.specs.declared.timed.Timed.{Timed}
use Rattle.cycle_report.specs.PlainReport.{PlainLoop}
use Rattle.ir_core.specs.Bodies.{Words}
use Rattle.pass_runs.specs.ConvertRuns.Typed.{Fits}
use Rattle.pass_runs.specs.ConvertRuns.LoweredConversions.Suiting as typing
use Rattle.pass_runs.specs.LowerRuns.Suits.{scope_of}
use Rattle.pass_runs.specs.LowerRuns.Holding.{Holds, none_hidden}
use Rattle.timed_pieces.specs.FlatRuns.{Choice, IsFine, IsLaidOut, AreDone}
use Rattle.expanded_pieces.specs.BegunPieces.Points.{begins_at}
use Rattle.clock_ir.specs.ClockRuns.{timed_program, clock_run}
use Rattle.clock_ir.specs.ClockRuns as clock
use Rattle.clock_runs.specs.Laws.{IsEnded, run_cycles}
use Rattle.c_meaning.specs.PieceRuns.Pieces as pieces
use Rattle.timed_pieces.specs.Laws.{HasTimes, node_count}

-- The program that a source is, without faults for the top function of this name.
pub record IsFaultless (source : List ℕ) (p : ProgramTree) (top : ℕ) (name : List ℕ) : Type 0 where
  pub tokens : List Token
  pub replaced : List Token
  pub end : Place
  pub spelled : Spells source tokens
  pub becomes : Becomes tokens replaced
  pub derives : DerivesProgram (terminals replaced) end p
  pub named : top_name p top ≡ Some name
  pub faultless : program_faults p name ≡ []

-- what it is expanded to
abbrev pub expanded : ProgramTree → ℕ → ExpandedTree
expanded p top = expansion (program_elaborated p top)

-- The clocked run is behind this many cycles at its end, with a word and words that show this end of a run in C, and not before.
pub record EndsAs (e : ExpandedTree) (timed : Cfg Timed) (t : Words) (cycles : ℕ) (result : Option ℕ) (arrays : List (List ℕ)) (kept : FileScope) : Type 0 where
  pub word : Option ℕ
  pub words : Words
  pub store : Store
  pub way : pieces.Way
  pub run : clock_run (timed_program timed) t cycles ≡ clock.ended word words
  pub sooner : (m : ℕ) → m < cycles → IsEnded (clock_run (timed_program timed) t m) → ⊥
  pub done : AreDone (frame_of e) e.result way store word words
  pub result_is : result_word e e.ret e.result store ≡ result
  pub arrays_are : host_arrays e.arrays 0 store ≡ arrays
  pub kept_is : kept_of e store ≡ kept

-- The clocked run from words that show where a run in C begins is that run: it ends where that ends, one cycle behind the cycles of its nodes, and goes on for ever where that does.
pub record RunsAs (p : ProgramTree) (top : ℕ) (choice : Choice) (start : Point) (cfg : Cfg Untimed) (timed : Cfg Timed) (kept : FileScope) (scalars : List ℕ) (arrays : List (List ℕ)) (t : Words) : Type 0 where
  pub finite : (n : ℕ) (result : Option ℕ) (last : List (List ℕ)) (left : FileScope) (trace : List Point) → c_run p top kept scalars arrays n ≡ ended result last left trace
      → EndsAs (expanded p top) timed t (1 + run_cycles cfg timed t (node_count (frame_of (expanded p top)) choice (begins_at (expanded p top).pieces) (expanded p top).pieces start trace)) result last left
  pub endless : ((n : ℕ) → c_run p top kept scalars arrays n ≡ running) → (m : ℕ) → IsEnded (clock_run (timed_program timed) t m) → ⊥

-- Of a source without faults: there is a point at which its pieces begin, and each program that is laid out and scheduled from them runs as the source does, for all contents of file scope and all arguments that fit, from all words that show them.
abbrev pub SourceProgramsKeepRuns : Type 0
SourceProgramsKeepRuns = (source : List ℕ) (p : ProgramTree) (top : ℕ) (name : List ℕ) → IsFaultless source p top name
    → (start : Point) × ((choice : Choice) (cfg : Cfg Untimed) → IsLaidOut (frame_of (expanded p top)) choice (expanded p top).pieces start (expanded p top).result cfg
    → (units : Units) (timed : Cfg Timed) (rows : List PlainLoop) → HasTimes units cfg timed rows
    → (first : Store) (kept : FileScope) (scalars : List ℕ) (arrays : List (List ℕ)) (t : Words) → IsTyped (frame_of (expanded p top)) first → ProgramInputsFit p top kept scalars arrays
    → Holds (frame_of (expanded p top)) none_hidden (started (expanded p top) first kept scalars arrays) t → Fits (typing.widths_of (scope_of (frame_of (expanded p top)))) (typing.words_of (scope_of (frame_of (expanded p top)))) t
    → RunsAs p top choice start cfg timed kept scalars arrays t)
