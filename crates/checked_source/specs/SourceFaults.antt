-- Which sources are no program without faults, and why.
use Rattle.std.specs.Prelude.{ℕ, List}
use Rattle.hls_base.specs.declared.refusal.Refusal.{Refusal}
use Rattle.c_token.specs.declared.token.Token.{Token}
use Rattle.c_token.specs.SourceText.{Spells, FirstFault}
use Rattle.c_token.specs.Replacement.{FirstReplacementFault}
use Rattle.c_tree.specs.Terminals.{terminals}
use Rattle.c_tree.specs.Tree.{ProgramTree}
use Rattle.c_tree.specs.Refusal.{IsFaultOf}
use Rattle.c_meaning.specs.Checks.Faults.{IsLeast}
use Rattle.c_meaning.specs.Checks.Programs.{program_faults}
use Rattle.checked_source.specs.Sources.{end_of, IsReplaced, IsTheProgramOf}

-- the fault of a source that is no program within the limits: of its tokens, of their replacement, or of the grammar and its limits
pub data IsFaultBefore (source : List ℕ) (fault : Refusal) : Type 0 where
  of_tokens : FirstFault source fault → IsFaultBefore source fault
  of_replacement : (tokens : List Token) → Spells source tokens → FirstReplacementFault tokens fault → IsFaultBefore source fault
  of_grammar : (tokens : List Token) → IsReplaced source tokens → IsFaultOf (terminals tokens) (end_of source) fault → IsFaultBefore source fault

-- The fault of a source as it stands: it is no program within the limits; or a program that breaks a rule of C, of which the earliest place counts, and at one place the smallest rule.
pub data IsSourceFault (source top : List ℕ) (fault : Refusal) : Type 0 where
  no_program : IsFaultBefore source fault → IsSourceFault source top fault
  breaks_a_rule : (program : ProgramTree) → IsTheProgramOf source program → IsLeast (program_faults program top) fault → IsSourceFault source top fault
