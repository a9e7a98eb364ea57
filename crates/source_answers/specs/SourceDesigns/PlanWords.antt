-- What the contents of a plan are for the expanded program whose frame it has.
use Rattle.std.specs.Prelude.{◌≡◌, ℕ, List}
use Rattle.hls_base.specs.FileScope.{FileScope}
use Rattle.pieces.specs.Program.{ExpandedTree}
use Rattle.c_meaning.specs.PieceRuns.Runs.{frame_of}
use Rattle.ir_core.specs.declared.cfg.Cfg.{Cfg}
use Rattle.ir_lower.specs.Frames.{frame_view}
use Rattle.ir_core.specs.declared.timed.Timed.{Timed}
use Rattle.reg_binding.specs.declared.registers.Registers.{Registers}
use Rattle.compile_steps.specs.Resets.{expanded_frame}
use Rattle.ir_core.specs.Bodies.{Words}
use Rattle.pass_runs.specs.ConvertRuns.Typed.{Fits}
use Rattle.pass_runs.specs.ConvertRuns.LoweredConversions.Suiting.{widths_of, words_of}
use Rattle.pass_runs.specs.LowerRuns.Suits.{scope_of}
use Rattle.pass_runs.specs.LowerRuns.Holding.{ArraysAreShort}
use Rattle.timed_pieces.specs.StartedWords.Contents as words
use Rattle.timed_pieces.specs.StartedWords.Contents.{host_words, file_words}
use Rattle.timed_pieces.specs.StartedWords.FirstWords.{FillHosts, HasFirstContents}
use Rattle.compile_steps.specs.BegunPrograms.{InputsFill}
use Rattle.datapath.specs.Plans.{Savings, plan_of}
use Rattle.datapath.specs.Answers.{Begins, HoldsArrays}

-- From inputs that fill the program, contents with which a run of the plan may begin are words that begin with them, and have the widths of the program.
abbrev pub PlansBegin : Type 0
PlansBegin = (e : ExpandedTree) (timed : Cfg Timed) (registers : Registers) (savings : Savings) → frame_view timed.frame ≡ expanded_frame e → ArraysAreShort (frame_of e) → HasFirstContents e
    → (kept : FileScope) (scalars : List ℕ) (arrays : List (List ℕ)) (t : Words) → InputsFill e kept scalars arrays → Begins (plan_of timed registers savings) kept scalars arrays t
    → words.Begins e kept scalars arrays t × Fits (widths_of (scope_of (frame_of e))) (words_of (scope_of (frame_of e))) t

-- Where the host reaches the first arrays of the program, one for each row that is given, words that hold these elements and this file scope hold them for the plan.
abbrev pub PlansHold : Type 0
PlansHold = (e : ExpandedTree) (timed : Cfg Timed) (registers : Registers) (savings : Savings) → frame_view timed.frame ≡ expanded_frame e → (given : List (List ℕ)) → FillHosts e.arrays given
    → (kept : FileScope) (arrays : List (List ℕ)) (t : Words) → host_words e.arrays 0 t.memories ≡ arrays → file_words e t ≡ kept → HoldsArrays (plan_of timed registers savings) kept arrays t
