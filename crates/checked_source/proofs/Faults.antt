-- A source that is a program has no fault, and is one program.
use Rattle.std.proofs.Common.{◌≡◌, ℕ, ◌<◌, List, [], ◌∷◌, sym, subst, arith}
use Rattle.hls_base.specs.declared.refusal.Refusal.{Refusal}
use Rattle.c_token.specs.declared.token.Token.{Token}
use Rattle.c_token.specs.SourceText.{Spells}
use Rattle.c_token.specs.Replacement.{Becomes}
use Rattle.c_token.proofs.Unique.{spells_once, spelled_or_refused}
use Rattle.c_token.proofs.Divided.{becomes_once, becomes_or_refused}
use Rattle.c_tree.specs.Terminals.{terminals}
use Rattle.c_tree.specs.Tree.{ProgramTree}
use Rattle.c_tree.specs.Refusal.{IsProgram}
use Rattle.c_meaning.specs.Checks.Faults.{IsLeast}
use Rattle.c_meaning.specs.Checks.Programs.{program_faults}
use Rattle.checked_source.specs.Sources.{end_of, IsReplaced, IsProgramOf, IsTheProgramOf}
use Rattle.checked_source.specs.SourceFaults as f
use Rattle.checked_source.specs.SourceFaults.{IsFaultBefore, IsSourceFault}
use Rattle.c_tree.proofs.FaultOnce.{no_fault}

-- ---- a source

pub one_list : (source : List ℕ) (tokens others : List Token) → IsReplaced source tokens → IsReplaced source others → tokens ≡ others
one_list source tokens others a b =
    let spelled : a.tokens ≡ b.tokens = spells_once source a.tokens b.tokens a.spelled b.spelled in
    becomes_once b.tokens tokens others (subst (λ x. Becomes x tokens) spelled a.becomes) b.becomes

pub program_has_no_fault : (source : List ℕ) (program : ProgramTree) (fault : Refusal) → IsProgramOf source program → IsFaultBefore source fault → ⊥
program_has_no_fault source program fault p (f.of_tokens refused) = spelled_or_refused source p.replaced.tokens fault p.replaced.spelled refused
program_has_no_fault source program fault p (f.of_replacement tokens spelled refused) =
    let same : p.replaced.tokens ≡ tokens = spells_once source _ _ p.replaced.spelled spelled in
    becomes_or_refused tokens p.tokens fault (subst (λ x. Becomes x p.tokens) same p.replaced.becomes) refused
program_has_no_fault source program fault p (f.of_grammar tokens replaced refused) =
    let same : p.tokens ≡ tokens = one_list source _ _ p.replaced replaced in
    no_fault (terminals tokens) (end_of source) program fault (subst (λ x. IsProgram (terminals x) (end_of source) program) same p.is) refused

pub are_replaced : (source : List ℕ) (items tokens others replaced : List Token) → tokens ≡ items → replaced ≡ others → Spells source items → Becomes tokens others → IsReplaced source replaced
are_replaced source items tokens others replaced e g spelled becomes =
    record { tokens = tokens; spelled = subst (Spells source) (sym e) spelled; becomes = subst (Becomes tokens) (sym g) becomes }

-- what the source's only list of tokens is
pub program_of_list : (source : List ℕ) (program : ProgramTree) (tokens : List Token) → IsProgramOf source program → IsReplaced source tokens → IsProgram (terminals tokens) (end_of source) program
program_of_list source program tokens p replaced = subst (λ x. IsProgram (terminals x) (end_of source) program) (one_list source _ _ p.replaced replaced) p.is

pub no_least : (fs : List Refusal) (fault : Refusal) → fs ≡ [] → IsLeast fs fault → ⊥
no_least [] fault e least = let none : least.0.0 < 0 = least.0.1 in absurd (omega arith)
no_least (f ∷ fs) fault e least = absurd cc

pub no_source_fault : (source top : List ℕ) (program : ProgramTree) (fault : Refusal) → IsTheProgramOf source program → program_faults program top ≡ [] → IsSourceFault source top fault → ⊥
no_source_fault source top program fault the faultless (f.no_program before) = program_has_no_fault source program fault the.is before
no_source_fault source top program fault the faultless (f.breaks_a_rule other is least) =
    let same : program ≡ other = is.only program the.is in
    no_least (program_faults other top) fault (subst (λ p. program_faults p top ≡ []) same faultless) least
