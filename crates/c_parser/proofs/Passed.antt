-- A refusal that is passed on holds what it held.
use Rattle.std.proofs.Common.{◌≡◌, sym, subst, Result, Ok, Err}
use Rattle.std.specs.Result.{IsErrAnd}
use Rattle.hls_base.specs.declared.refusal.Fail.{Fail}
use Rattle.hls_base.specs.declared.refusal.Fail.TheVariants.{Refused, Memory}
use Rattle.hls_base.specs.declared.refusal.Refusal.{Refusal}
use Rattle.hls_base.specs.Refusals.{IfRefused}

same_failure : (A B : Type 0) (e : Fail) (P : Refusal → Type 0) → IfRefused {A = B} (Err e) P → IfRefused {A = A} (Err e) P
same_failure A B (Refused x) P h = h
same_failure A B Memory P h = tt

pub passed_on : {A : Type 0} {Q : Fail → Type 0} (B : Type 0) (r : Result A Fail) (e : Fail) (P : Refusal → Type 0) → IsErrAnd r Q → ((y : Fail) → Q y → y ≡ e) → IfRefused {A = B} (Err e) P → IfRefused r P
passed_on B (Ok x) e P is same h = absurd is
passed_on {A} B (Err y) e P is same h = subst (λ v. IfRefused {A = A} (Err v) P) (sym (same y is)) (same_failure A B e P h)
