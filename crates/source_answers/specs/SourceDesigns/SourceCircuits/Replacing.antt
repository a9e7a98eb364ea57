-- Answers that may stand in for others.
use Rattle.std.specs.Prelude.{◌≡◌, ◌⊎◌, ℕ, List, Option}
use Rattle.hls_base.specs.FileScope.{FileScope}
use Rattle.rtl_core.specs.ClockStep.{Fit}
use Rattle.rtl_core.specs.Interface.{Interface}
use Rattle.rtl_core.specs.Box.{Answer, Ended, Undefined, Answers}
use Rattle.source_answers.specs.SourceDesigns.SourceCircuits.Fitting.{FitArrays}

-- what a start finds fits: the contents of file scope, as Kept says, the arguments and the arrays
pub record StartFits (i : Interface) (Kept : FileScope → Type 0) (file_scope : FileScope) (scalars : List ℕ) (rows : List (List ℕ)) : Type 0 where
  pub kept : Kept file_scope
  pub arguments : Fit i.scalars scalars
  pub arrays : FitArrays i.arrays rows

-- Of each start that fits: each answer that is claimed is one that is given, or is undefined; and what the run leaves fits again.
pub record Replaces (i : Interface) (Kept : FileScope → Type 0) (given claimed : Answers) : Type 0 where
  pub covered : (file_scope : FileScope) (scalars : List ℕ) (rows : List (List ℕ)) (answer : Answer) → StartFits i Kept file_scope scalars rows → claimed file_scope scalars rows answer → (answer ≡ Undefined) ⊎ given file_scope scalars rows answer
  pub leaves : (file_scope left : FileScope) (scalars : List ℕ) (rows last : List (List ℕ)) (cycles : ℕ) (result : Option ℕ) → StartFits i Kept file_scope scalars rows → claimed file_scope scalars rows (Ended cycles result last left)
      → Kept left × FitArrays i.arrays last
