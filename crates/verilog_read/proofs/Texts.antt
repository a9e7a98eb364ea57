-- From what a text says to its circuit, or its first fault.
use Rattle.std.proofs.Common.{◌≡◌, ℕ, ◌≤◌, List, length, sym, ◌∙◌, subst, Some, None}
use Rattle.std.specs.Prelude.{IfOk, Result, Ok, Err, IsErrAnd}
use Rattle.hls_base.specs.declared.refusal.Refusal.{Refusal}
use Rattle.hls_base.specs.declared.refusal.Fail.{Fail}
use Rattle.hls_base.specs.declared.refusal.Fail.TheVariants.{Refused, Memory}
use Rattle.hls_base.specs.Refusals.{IfRefused}
use Rattle.rtl_core.specs.declared.design.Design.{Design}
use Rattle.rtl_core.specs.Netlist.{Netlist, netlist_of}
use Rattle.rtl_core.specs.ModuleText.{IsModuleText}
use Rattle.verilog_read.specs.Circuit.{circuit_of}
use Rattle.verilog_syntax.specs.PlacedSyntax.{PlacedModule}
use Rattle.verilog_read.specs.Earliest.{first_fault}
use Rattle.verilog_read.specs.Faults.{module_faults}
use Rattle.verilog_syntax.specs.TextSyntax.{limit, Says, IsSyntaxFault, over_long, of_tokens}
use Rattle.verilog_read.specs.TextFaults.{IsFirstFault, at_front, in_module, too_long}
use Rattle.verilog_read.proofs.Relation.{related, only_related}

pub read_within : (bytes : List ℕ) (r : Result Design Fail) → length bytes ≤ limit → IfOk r (λ d. length bytes ≤ limit)
read_within bytes (Ok d) small = small
read_within bytes (Err e) small = tt

pub read_text : (bytes : List ℕ) (m : PlacedModule) (r : Result Design Fail) → length bytes ≤ limit → Says bytes m → IfOk r (λ d. (first_fault (module_faults m) ≡ None) × (netlist_of d ≡ circuit_of m))
    → IfOk r (λ d. IsModuleText bytes (netlist_of d))
read_text bytes m (Ok d) small said h = subst (IsModuleText bytes) (sym h.1) (related bytes m small said h.0)
read_text bytes m (Err e) small said h = tt

pub read_only : (bytes : List ℕ) (m : PlacedModule) (r : Result Design Fail) → length bytes ≤ limit → Says bytes m → IfOk r (λ d. (first_fault (module_faults m) ≡ None) × (netlist_of d ≡ circuit_of m))
    → IfOk r (λ d. (e : Netlist) → IsModuleText bytes e → e ≡ netlist_of d)
read_only bytes m (Ok d) small said h = λ e is. only_related bytes m e small said h.0 is ∙ sym h.1
read_only bytes m (Err e) small said h = tt

pub front_first : (bytes : List ℕ) (x : Refusal) → IsSyntaxFault bytes x → IsFirstFault bytes x
front_first bytes _ (over_long h) = too_long h
front_first bytes x (of_tokens _ small f) = at_front x small f

pub read_refused : (bytes : List ℕ) (m : PlacedModule) (r : Result Design Fail) → length bytes ≤ limit → Says bytes m → IfRefused r (λ x. first_fault (module_faults m) ≡ Some x) → IfRefused r (λ x. IsFirstFault bytes x)
read_refused bytes m (Ok d) small said h = tt
read_refused bytes m (Err (Refused x)) small said h = in_module m x small said h
read_refused bytes m (Err Memory) small said h = tt

-- what is refused before anything of what the text says is looked at
pub refused_front : (A : Type 0) {B : Type 0} {Q : Fail → Type 0} (bytes : List ℕ) (r : Result B Fail) (e : Fail) → IsErrAnd r Q → ((y : Fail) → Q y → y ≡ e) → IfRefused {A = A} (Err e) (λ x. IsSyntaxFault bytes x) → IfRefused r (λ x. IsFirstFault bytes x)
refused_front A bytes (Ok d) e is same h = absurd is
refused_front A {B} bytes (Err y) e is same h = subst (λ z. IfRefused {A = B} (Err z) (λ x. IsFirstFault bytes x)) (sym (same y is)) (first e h)
  where
    first : (e : Fail) → IfRefused {A = A} (Err e) (λ x. IsSyntaxFault bytes x) → IfRefused {A = B} (Err e) (λ x. IsFirstFault bytes x)
    first (Refused x) h = front_first bytes x h
    first Memory h = tt
