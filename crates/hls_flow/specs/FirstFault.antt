-- Which sources are compiled, and why another one is refused.
use Rattle.std.specs.Prelude.{◌≡◌, ◌≤◌, ◌<◌, ℕ, List, []}
use Rattle.hls_base.specs.declared.refusal.Refusal.{Refusal}
use Rattle.c_tree.specs.Tree.{FunctionTree, ProgramTree}
use Rattle.c_meaning.specs.Checks.Programs.{program_faults}
use Rattle.checked_source.specs.Sources.{IsTheProgramOf, IsTopFunction}
use Rattle.checked_source.specs.SourceFaults.{IsSourceFault}
use Rattle.c_elaborate.specs.Programs.{program_elaborated}
use Rattle.pieces.specs.Program.{ExpandedTree}
use Rattle.c_expand.specs.Expansion.{expansion, expanded_weight}

-- The source is one program, which breaks no rule of C, and weighs at most 8,192 once the calls of its top function are expanded.
pub record IsAccepted (source top : List ℕ) : Type 0 where
  pub program : ProgramTree
  pub is : IsTheProgramOf source program
  pub faultless : program_faults program top ≡ []
  pub index : ℕ
  pub function : FunctionTree
  pub top_is : IsTopFunction program top index function
  pub within : expanded_weight (program_elaborated program index) ≤ 8192

-- the program of a source that is accepted, with its calls expanded
abbrev pub expansion_of : {source top : List ℕ} → IsAccepted source top → ExpandedTree
expansion_of accepted = expansion (program_elaborated accepted.program accepted.index)

-- The program weighs more than 8,192 once the calls of its top function are expanded. Rule 36 stands at the name of this function, where it has its body.
pub record IsTooLarge (program : ProgramTree) (top : List ℕ) (fault : Refusal) : Type 0 where
  pub index : ℕ
  pub function : FunctionTree
  pub is : IsTopFunction program top index function
  pub heavy : 8192 < expanded_weight (program_elaborated program index)
  pub fault_is : fault ≡ record { rule = 36; place = function.at }

-- The first fault of a source: that of the source as it stands; or it is a program that breaks no rule of C, and is too large.
pub data IsFirstFault (source top : List ℕ) (fault : Refusal) : Type 0 where
  of_source : IsSourceFault source top fault → IsFirstFault source top fault
  too_large : (program : ProgramTree) → IsTheProgramOf source program → program_faults program top ≡ [] → IsTooLarge program top fault → IsFirstFault source top fault
