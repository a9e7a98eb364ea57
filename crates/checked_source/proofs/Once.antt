-- A source has at most one fault as it stands.
use Rattle.std.proofs.Common.{◌≡◌, ℕ, List, subst}
use Rattle.hls_base.specs.declared.refusal.Refusal.{Refusal}
use Rattle.c_token.specs.declared.token.Token.{Token}
use Rattle.c_token.specs.SourceText.{Spells, FirstFault}
use Rattle.c_token.specs.Replacement.{FirstReplacementFault}
use Rattle.c_token.proofs.Unique.{spells_once, spelled_or_refused, refused_once}
use Rattle.c_token.proofs.Divided.{becomes_or_refused, replacement_refused_once}
use Rattle.c_tree.specs.Tree.{ProgramTree}
use Rattle.c_tree.specs.Terminals.{terminals}
use Rattle.c_tree.specs.Refusal.{IsFaultOf}
use Rattle.c_meaning.specs.Checks.Faults.{IsLeast}
use Rattle.c_meaning.specs.Checks.Programs.{program_faults}
use Rattle.c_tree.proofs.FaultOnce.{one_fault}
use Rattle.checked_source.specs.Sources.{end_of, IsReplaced, IsTheProgramOf}
use Rattle.checked_source.specs.SourceFaults as f
use Rattle.checked_source.specs.SourceFaults.{IsFaultBefore, IsSourceFault}
use Rattle.checked_source.proofs.Faults.{one_list, program_has_no_fault}
use Rattle.checked_source.proofs.LeastOnce.{one_least}

-- ---- a source that is no program

-- tokens that are a source's, and become others, are not refused before
refused_earlier : (source : List ℕ) (tokens : List Token) (r : Refusal) → IsReplaced source tokens → FirstFault source r → ⊥
refused_earlier source tokens r replaced refused = spelled_or_refused source replaced.tokens r replaced.spelled refused

not_replaced : (source : List ℕ) (tokens others : List Token) (r : Refusal) → IsReplaced source tokens → Spells source others → FirstReplacementFault others r → ⊥
not_replaced source tokens others r replaced spelled refused =
    let same : others ≡ replaced.tokens = spells_once source others replaced.tokens spelled replaced.spelled in
    becomes_or_refused replaced.tokens tokens r replaced.becomes (subst (λ x. FirstReplacementFault x r) same refused)

before_once : (source : List ℕ) (r q : Refusal) → IsFaultBefore source r → IsFaultBefore source q → q ≡ r
before_once source r q (f.of_tokens a) (f.of_tokens b) = refused_once source q r b a
before_once source r q (f.of_tokens a) (f.of_replacement us spelled b) = absurd (spelled_or_refused source us r spelled a)
before_once source r q (f.of_tokens a) (f.of_grammar us replaced b) = absurd (refused_earlier source us r replaced a)
before_once source r q (f.of_replacement ts spelled a) (f.of_tokens b) = absurd (spelled_or_refused source ts q spelled b)
before_once source r q (f.of_replacement ts spelled a) (f.of_replacement us spells b) =
    let same : ts ≡ us = spells_once source ts us spelled spells in
    replacement_refused_once us q r b (subst (λ x. FirstReplacementFault x r) same a)
before_once source r q (f.of_replacement ts spelled a) (f.of_grammar us replaced b) = absurd (not_replaced source us ts r replaced spelled a)
before_once source r q (f.of_grammar ts replaced a) (f.of_tokens b) = absurd (refused_earlier source ts q replaced b)
before_once source r q (f.of_grammar ts replaced a) (f.of_replacement us spelled b) = absurd (not_replaced source ts us q replaced spelled b)
before_once source r q (f.of_grammar ts replaced a) (f.of_grammar us become b) =
    let same : ts ≡ us = one_list source ts us replaced become in
    one_fault (terminals us) (end_of source) r q (subst (λ x. IsFaultOf (terminals x) (end_of source) r) same a) b

-- ---- a program

pub one_program : (source : List ℕ) (p q : ProgramTree) → IsTheProgramOf source p → IsTheProgramOf source q → p ≡ q
one_program source p q a b = b.only p a.is

-- ---- the whole

pub source_fault_once : (source top : List ℕ) (r q : Refusal) → IsSourceFault source top r → IsSourceFault source top q → q ≡ r
source_fault_once source top r q (f.no_program a) (f.no_program b) = before_once source r q a b
source_fault_once source top r q (f.no_program a) (f.breaks_a_rule program the least) = absurd (program_has_no_fault source program r the.is a)
source_fault_once source top r q (f.breaks_a_rule program the least) (f.no_program b) = absurd (program_has_no_fault source program q the.is b)
source_fault_once source top r q (f.breaks_a_rule program the least) (f.breaks_a_rule other is less) =
    let same : program ≡ other = one_program source program other the is in
    one_least (program_faults other top) r q (subst (λ p. IsLeast (program_faults p top) r) same least) less
