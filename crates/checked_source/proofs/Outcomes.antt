-- What holds of an answer or of a refusal holds also in weaker form, and where it is passed on.
use Rattle.std.proofs.Common.{◌≡◌, sym, subst, Result, Ok, Err}
use Rattle.std.specs.Result.{IsErrAnd, IfOk}
use Rattle.hls_base.specs.declared.refusal.Fail.{Fail}
use Rattle.hls_base.specs.declared.refusal.Fail.TheVariants.{Refused, Memory}
use Rattle.hls_base.specs.declared.refusal.Refusal.{Refusal}
use Rattle.hls_base.specs.Refusals.{IfRefused}

pub if_refused_weaker : {A : Type 0} (B : Type 0) (r : Result A Fail) (e : Fail) (P R : Refusal → Type 0) → r ≡ Err e → ((x : Refusal) → P x → R x) → IfRefused {A = B} (Err e) P → IfRefused r R
if_refused_weaker B (Ok x) e P R same f h = absurd cc
if_refused_weaker {A} B (Err y) e P R same f h =
    let z : y ≡ e = cc in
    subst (λ v. IfRefused {A = A} (Err v) R) (sym z) (go A B e P R f h)
  where
    go : (A B : Type 0) (e : Fail) (P R : Refusal → Type 0) → ((x : Refusal) → P x → R x) → IfRefused {A = B} (Err e) P → IfRefused {A = A} (Err e) R
    go A B (Refused x) P R f h = f x h
    go A B Memory P R f h = tt

pub passed_on : {A : Type 0} {Q : Fail → Type 0} (B : Type 0) (r : Result A Fail) (e : Fail) (P R : Refusal → Type 0) → IsErrAnd r Q → ((y : Fail) → Q y → y ≡ e) → ((x : Refusal) → P x → R x) → IfRefused {A = B} (Err e) P → IfRefused r R
passed_on B (Ok x) e P R is same f h = absurd is
passed_on {A} B (Err y) e P R is same f h = if_refused_weaker {A = A} B (Err y) e P R (let z : y ≡ e = same y is in cc) f h

pub refused_weaker : {A : Type 0} (r : Result A Fail) (P R : Refusal → Type 0) → ((x : Refusal) → P x → R x) → IfRefused r P → IfRefused r R
refused_weaker (Ok x) P R f h = tt
refused_weaker (Err (Refused x)) P R f h = f x h
refused_weaker (Err Memory) P R f h = tt

pub ok_weaker : {A : Type 0} (r : Result A Fail) (P R : A → Type 0) → ((x : A) → P x → R x) → IfOk r P → IfOk r R
ok_weaker (Ok x) P R f h = f x h
ok_weaker (Err e) P R f h = tt
