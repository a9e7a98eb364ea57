-- What the words of the program ask for, and when the stages of what they name agree.
use Rattle.std.specs.Prelude.{◌≡◌, ℕ, Bool, true, false, List, [], ◌∷◌, codes, Option, Some, None, if◌then◌else◌}
use Rattle.std.specs.List.{All}
use Rattle.std.specs.Str.{bytes_eq}
use Rattle.hls_base.specs.Outside.{Files, AreFirstBytes}
use Rattle.stage_runs.specs.declared.stage.StageInputs.{StageInputs}
use Rattle.stage_runs.specs.declared.stage.StageRuns.{StageRuns}
use Rattle.stage_runs.specs.Agreement.{AreRunsOf, Agrees}

-- whether no loop is to be overlapped, by the words behind the names
abbrev pub plain_of : List (List ℕ) → Option Bool
plain_of [] = Some false
plain_of (word ∷ []) = if bytes_eq word (codes "plain") then Some true else None
plain_of _ = None

-- a source, its top function, its run file, and perhaps `plain`
abbrev pub IsAsked : List (List ℕ) → List ℕ → List ℕ → List ℕ → Bool → Type 0
IsAsked (s ∷ t ∷ r ∷ words) source top run plain = (s ≡ source) × (t ≡ top) × (r ≡ run) × (plain_of words ≡ Some plain)
IsAsked _ source top run plain = ⊥

-- What is run: the first bytes of the two files. Of each one byte more is read than the largest has.
pub record IsGiven (files : Option Files) (source top run : List ℕ) (plain : Bool) (given : StageInputs) : Type 0 where
  pub source_is : AreFirstBytes files source 65537 given.source
  pub run_is : AreFirstBytes files run 16777217 given.run
  pub top_is : given.top ≡ top
  pub plain_is : given.plain ≡ plain

-- each stage agrees with the run in C
pub record IsAgreement (given : StageInputs) : Type 0 where
  pub runs : StageRuns
  pub are : AreRunsOf given runs
  pub agree : All (Agrees runs.ended) runs.stages.items

-- so it is for what these words name
pub record AgreesOn (words : List (List ℕ)) (files : Option Files) : Type 0 where
  pub source : List ℕ
  pub top : List ℕ
  pub run : List ℕ
  pub plain : Bool
  pub asked : IsAsked words source top run plain
  pub given : StageInputs
  pub given_is : IsGiven files source top run plain given
  pub agreement : IsAgreement given
