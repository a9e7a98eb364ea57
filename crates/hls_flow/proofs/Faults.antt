-- A source that is accepted has no first fault, and another one has at most one.
use Rattle.std.proofs.Common.{◌≡◌, ◌≤◌, ◌<◌, ℕ, List, [], sym, subst, ap, ◌∙◌, arith}
use Rattle.hls_base.specs.declared.refusal.Refusal.{Refusal}
use Rattle.c_tree.specs.Tree.{FunctionTree, ProgramTree}
use Rattle.c_meaning.specs.Checks.Faults.{fault}
use Rattle.c_meaning.specs.Checks.Programs.{program_faults}
use Rattle.checked_source.specs.Sources.{IsTopFunction}
use Rattle.checked_source.proofs.BodyOnce.{one_top, one_top_function}
use Rattle.checked_source.proofs.Faults.{no_source_fault}
use Rattle.checked_source.proofs.Once.{one_program, source_fault_once}
use Rattle.c_elaborate.specs.Programs.{program_elaborated}
use Rattle.c_expand.specs.Expansion.{expanded_weight}
use Rattle.hls_flow.specs.FirstFault as f
use Rattle.hls_flow.specs.FirstFault.{IsAccepted, IsTooLarge, IsFirstFault}

-- ---- a source that is accepted

not_above : (n : ℕ) → n ≤ 8192 → 8192 < n → ⊥
not_above n low high = absurd (omega (arith, low, high))

not_too_large : (p : ProgramTree) (top : List ℕ) (index : ℕ) (g : FunctionTree) (r : Refusal) → program_faults p top ≡ [] → IsTopFunction p top index g
    → expanded_weight (program_elaborated p index) ≤ 8192 → IsTooLarge p top r → ⊥
not_too_large p top index g r faultless is within large =
    let same : index ≡ large.index = one_top p top index large.index g large.function faultless is large.is in
    not_above (expanded_weight (program_elaborated p large.index)) (subst (λ i. expanded_weight (program_elaborated p i) ≤ 8192) same within) large.heavy

pub accepted_has_no_fault : (source top : List ℕ) (r : Refusal) → IsAccepted source top → IsFirstFault source top r → ⊥
accepted_has_no_fault source top r accepted (f.of_source a) = no_source_fault source top accepted.program r accepted.is accepted.faultless a
accepted_has_no_fault source top r accepted (f.too_large program the faultless large) =
    let same : accepted.program ≡ program = one_program source accepted.program program accepted.is the in
    not_too_large program top accepted.index accepted.function r faultless
    (subst (λ p. IsTopFunction p top accepted.index accepted.function) same accepted.top_is)
    (subst (λ p. expanded_weight (program_elaborated p accepted.index) ≤ 8192) same accepted.within) large

-- ---- a source that is refused

too_large_once : (program : ProgramTree) (top : List ℕ) (r q : Refusal) → program_faults program top ≡ [] → IsTooLarge program top r → IsTooLarge program top q → q ≡ r
too_large_once program top r q faultless a b =
    let same : a.function ≡ b.function = one_top_function program top a.index b.index a.function b.function faultless a.is b.is in
    b.fault_is ∙ (ap (λ (g : FunctionTree). fault 36 g.at) (sym same) ∙ sym a.fault_is)

pub first_fault_once : (source top : List ℕ) (r q : Refusal) → IsFirstFault source top r → IsFirstFault source top q → q ≡ r
first_fault_once source top r q (f.of_source a) (f.of_source b) = source_fault_once source top r q a b
first_fault_once source top r q (f.of_source a) (f.too_large program the faultless b) = absurd (no_source_fault source top program r the faultless a)
first_fault_once source top r q (f.too_large program the faultless a) (f.of_source b) = absurd (no_source_fault source top program q the faultless b)
first_fault_once source top r q (f.too_large program the faultless a) (f.too_large other is clean b) =
    let same : program ≡ other = one_program source program other the is in
    too_large_once other top r q clean (subst (λ p. IsTooLarge p top r) same a) b
