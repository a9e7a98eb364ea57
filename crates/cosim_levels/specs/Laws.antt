-- Each start has an answer, and only one.
use Rattle.std.specs.Prelude.{◌≡◌, ◌⊎◌, ℕ, List}
use Rattle.hls_base.specs.FileScope.{FileScope}
use Rattle.c_tree.specs.Tree.{ProgramTree}
use Rattle.c_meaning.specs.Run as c
use Rattle.c_meaning.specs.Run.{c_run}
use Rattle.rtl_core.specs.Box.{Answer}
use Rattle.cycle_report.specs.PlainReport.{PlainReport}
use Rattle.cosim_levels.specs.CAnswers.{IsCAnswer}

abbrev pub StartsHaveOneAnswer : Type 0
StartsHaveOneAnswer = (program : ProgramTree) (top : ℕ) (report : PlainReport) (kept : FileScope) (arguments : List ℕ) (arrays : List (List ℕ)) (a b : Answer)
    → IsCAnswer program top report kept arguments arrays a → IsCAnswer program top report kept arguments arrays b → a ≡ b

-- Within any number of points the run has come to its answer, or waits. The answer without end is that of a run that waits at every number, so no start lacks an answer.
abbrev pub StartsAreAnswered : Type 0
StartsAreAnswered = (program : ProgramTree) (top : ℕ) (report : PlainReport) (kept : FileScope) (arguments : List ℕ) (arrays : List (List ℕ)) (points : ℕ)
    → ((a : Answer) × IsCAnswer program top report kept arguments arrays a) ⊎ (c_run program top kept arguments arrays points ≡ c.running)
