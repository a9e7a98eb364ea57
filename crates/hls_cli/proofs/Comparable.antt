-- Files that agree are found to agree.
use Rattle.std.proofs.Common.{◌≡◌, ◌⊎◌, inl, inr, ℕ, List, Option, Some, None, refl, sym, ap, ◌∙◌, subst}
use Rattle.std.specs.Prelude.{take, IsSomeAnd}
use Rattle.hls_base.specs.Outside.{Files, IsAbsent}
use Rattle.cosim_levels.specs.Verdicts as told
use Rattle.cosim_levels.specs.Verdicts.{PlainVerdict}
use Rattle.hls_flow.specs.declared.verdict.CosimInputs.{CosimInputs}
use Rattle.hls_flow.specs.FirstFault.{IsAccepted}
use Rattle.hls_flow.specs.Agreeing.{AgreesInTime}
use Rattle.hls_flow.proofs.Faults.{accepted_has_no_fault}
use Rattle.hls_flow.specs.AgreedComparisons.{SaysAgree}
use Rattle.hls_flow.proofs.AgreedComparisons.Found.{agreement_found}
use Rattle.command_words.specs.Commands.{Cosim}
use Rattle.hls_cli.specs.Comparisons.{IsGiven, IsCosimAnswer, IsCosimWork}
use Rattle.hls_cli.specs.Comparisons as comparisons
use Rattle.hls_cli.specs.VerdictLines.{verdict_status}
use Rattle.hls_cli.specs.Completeness.{IsComparable}

-- ---- what is read of a file

is_there : (found : Option (List ℕ)) (most : ℕ) (bytes : List ℕ) → IsSomeAnd found (λ whole. bytes ≡ take most whole) → found ≡ None → ⊥
is_there None most bytes h e = h
is_there (Some whole) most bytes h e = let clash : Some whole ≡ None = e in cc

first_once : (found : Option (List ℕ)) (most : ℕ) (a b : List ℕ) → IsSomeAnd found (λ whole. a ≡ take most whole) → IsSomeAnd found (λ whole. b ≡ take most whole) → a ≡ b
first_once None most a b x y = absurd x
first_once (Some whole) most a b x y = x ∙ sym y

pub all_there : (c : Cosim) (files : Files) (given : CosimInputs) → IsGiven c (Some files) given
    → IsAbsent (Some files) c.source ⊎ (IsAbsent (Some files) c.module_file ⊎ (IsAbsent (Some files) c.report ⊎ IsAbsent (Some files) c.run)) → ⊥
all_there c files given is (inl h) = is_there (files c.source) 65537 given.source is.source h
all_there c files given is (inr (inl h)) = is_there (files c.module_file) 67108865 given.module is.circuit h
all_there c files given is (inr (inr (inl h))) = is_there (files c.report) 16777217 given.report is.report h
all_there c files given is (inr (inr (inr h))) = is_there (files c.run) 16777217 given.run is.run h

abbrev inputs_with : List ℕ → List ℕ → List ℕ → List ℕ → List ℕ → ℕ → ℕ → CosimInputs
inputs_with source top module_bytes report run points cycles = record { source = source; top = top; «module» = module_bytes; report = report; run = run; points = points; cycles = cycles }

given_once : (c : Cosim) (files : Files) (a b : CosimInputs) → IsGiven c (Some files) a → IsGiven c (Some files) b → a ≡ b
given_once c files a b x y =
    let source : a.source ≡ b.source = first_once (files c.source) 65537 a.source b.source x.source y.source in
    let circuit : a.module ≡ b.module = first_once (files c.module_file) 67108865 a.module b.module x.circuit y.circuit in
    let report : a.report ≡ b.report = first_once (files c.report) 16777217 a.report b.report x.report y.report in
    let run : a.run ≡ b.run = first_once (files c.run) 16777217 a.run b.run x.run y.run in
    ap (λ s. inputs_with s a.top a.module a.report a.run a.points a.cycles) source
    ∙ (ap (λ t. inputs_with b.source t a.module a.report a.run a.points a.cycles) (x.top ∙ sym y.top)
    ∙ (ap (λ m. inputs_with b.source b.top m a.report a.run a.points a.cycles) circuit
    ∙ (ap (λ r. inputs_with b.source b.top b.module r a.run a.points a.cycles) report
    ∙ (ap (λ r. inputs_with b.source b.top b.module b.report r a.points a.cycles) run
    ∙ (ap (λ n. inputs_with b.source b.top b.module b.report b.run n a.cycles) (x.points ∙ sym y.points) ∙ ap (λ n. inputs_with b.source b.top b.module b.report b.run b.points n) (x.cycles ∙ sym y.cycles))))))

-- ---- the status

agreeing_status : (verdict : PlainVerdict) → SaysAgree verdict → verdict_status verdict ≡ 0
agreeing_status (told.agree result arrays count clock) says = refl
agreeing_status (told.differ difference) says = absurd says
agreeing_status (told.waiting level limit) says = absurd says
agreeing_status (told.run_line line) says = absurd says
agreeing_status (told.module_bad why) says = absurd says
agreeing_status (told.report_bad why) says = absurd says
agreeing_status (told.undefined rule at) says = absurd says

answer_agrees : (given : CosimInputs) (n : ℕ) (lines : List ℕ) (accepted : IsAccepted given.source given.top) → AgreesInTime given accepted → IsCosimAnswer given n lines → n ≡ 0
answer_agrees given n lines accepted agrees (comparisons.verdict v is status said) = status ∙ agreeing_status v (agreement_found given accepted agrees v is)
answer_agrees given n lines accepted agrees (comparisons.refused fault first status said) = absurd (accepted_has_no_fault given.source given.top fault accepted first)

pub comparable_agrees : (c : Cosim) (files : Files) (n : ℕ) (lines : List ℕ) → IsComparable c files → IsCosimWork c (Some files) n lines → n ≡ 0
comparable_agrees c files n lines can (comparisons.answers given is answer) =
    answer_agrees can.given n lines can.accepted can.agrees (subst (λ g. IsCosimAnswer g n lines) (given_once c files given can.given is can.given_is) answer)
