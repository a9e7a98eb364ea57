-- Exits with a refusal.
use Rattle.std.proofs.Common.{◌≡◌, subst, sym, Result, Ok, Err}
use Rattle.std.specs.Prelude.{IfOk}
use Rattle.std.specs.Result.{IsErrAnd}
use Rattle.hls_base.specs.declared.refusal.Fail.{Fail}
use Rattle.hls_base.specs.declared.refusal.Fail.TheVariants.{Refused, Memory}
use Rattle.hls_base.specs.declared.refusal.Refusal.{Refusal}
use Rattle.hls_base.specs.Refusals.{IfRefused}

pub IfRefused-weaker : {A : Type 0} (r : Result A Fail) (P R : Refusal → Type 0) → ((x : Refusal) → P x → R x) → IfRefused r P → IfRefused r R
IfRefused-weaker (Ok x) P R f h = tt
IfRefused-weaker (Err (Refused x)) P R f h = f x h
IfRefused-weaker (Err Memory) P R f h = tt

-- at the exit of a `?`
pub through : {A : Type 0} {Q : Fail → Type 0} (r : Result A Fail) (e : Fail) (P R : Refusal → Type 0) → IsErrAnd r Q → ((y : Fail) → Q y → y ≡ e) → IfRefused {A = A} (Err e) P → ((x : Refusal) → P x → R x) → IfRefused r R
through (Ok x) e P R is same h f = absurd is
through {A} (Err y) e P R is same h f = IfRefused-weaker {A = A} (Err y) P R f (subst (λ z. IfRefused {A = A} (Err z) P) (sym (same y is)) h)

pub refused_as : (A : Type 0) (e : Fail) (r : Refusal) (R : Refusal → Type 0) → e ≡ Refused r → R r → IfRefused {A = A} (Err e) R
refused_as A e r R h x = subst (λ z. IfRefused {A = A} (Err z) R) (sym h) x

pub IfOk-weaker : {A E : Type 0} (r : Result A E) (P Q : A → Type 0) → ((x : A) → P x → Q x) → IfOk r P → IfOk r Q
IfOk-weaker (Ok x) P Q f h = f x h
IfOk-weaker (Err e) P Q f h = tt
