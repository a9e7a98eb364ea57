-- A text has one first fault.
use Rattle.std.proofs.Common.{◌≡◌, ℕ, List, refl, sym, ap, ◌∙◌, arith}
use Rattle.std.specs.Prelude.{Result, Ok, Err}
use Rattle.std.proofs.lemmas.Option.{same_Some}
use Rattle.hls_base.specs.declared.refusal.Refusal.{Refusal}
use Rattle.hls_base.specs.declared.refusal.Fail.{Fail}
use Rattle.hls_base.specs.declared.refusal.Fail.TheVariants.{Refused, Memory}
use Rattle.hls_base.specs.Refusals.{IfRefused}
use Rattle.rtl_core.specs.declared.design.Design.{Design}
use Rattle.verilog_read.specs.Earliest.{first_fault}
use Rattle.verilog_read.specs.Faults.{module_faults}
use Rattle.verilog_read.specs.TextFaults.{IsFirstFault, too_long, at_front, in_module}
use Rattle.verilog_syntax.proofs.OneFront.{front_once, front_says, says_once}

pub one_fault : (bytes : List ℕ) (p q : Refusal) → IsFirstFault bytes p → IsFirstFault bytes q → p ≡ q
one_fault bytes _ _ (too_long h) (too_long k) = refl
one_fault bytes _ _ (too_long h) (at_front q few f) = absurd (omega (arith, h, few))
one_fault bytes _ _ (too_long h) (in_module n q few said e) = absurd (omega (arith, h, few))
one_fault bytes _ _ (at_front p few f) (too_long k) = absurd (omega (arith, k, few))
one_fault bytes _ _ (at_front p few f) (at_front q few2 g) = front_once bytes p q f g
one_fault bytes _ _ (at_front p few f) (in_module n q few2 said e) = absurd (front_says bytes p n f said)
one_fault bytes _ _ (in_module m p few said e) (too_long k) = absurd (omega (arith, k, few))
one_fault bytes _ _ (in_module m p few said e) (at_front q few2 g) = absurd (front_says bytes q m g said)
one_fault bytes _ _ (in_module m p few said e) (in_module n q few2 also h) =
    same_Some p q (sym e ∙ (ap (λ x. first_fault (module_faults x)) (says_once bytes m n said also) ∙ h))

pub refused_once : (bytes : List ℕ) (r : Result Design Fail) → IfRefused r (λ x. IsFirstFault bytes x) → IfRefused r (λ x. (q : Refusal) → IsFirstFault bytes q → q ≡ x)
refused_once bytes (Ok d) h = tt
refused_once bytes (Err (Refused x)) h = λ q is. one_fault bytes q x is h
refused_once bytes (Err Memory) h = tt
