-- What holds of a refusal that is passed on.
use Rattle.std.proofs.Common.{◌≡◌, sym, subst, Result, Ok, Err}
use Rattle.std.specs.Result.{IsErrAnd}
use Rattle.hls_base.specs.declared.refusal.Refusal.{Refusal}
use Rattle.stage_runs.specs.declared.stage.StageFault.{StageFault}
use Rattle.stage_runs.specs.declared.stage.StageFault.TheVariants as fault
use Rattle.stage_runs.specs.Agreement.{IfRefusal}

weaker : (A B : Type 0) (e : StageFault) (P R : Refusal → Type 0) → ((r : Refusal) → P r → R r) → IfRefusal {A = B} (Err e) P → IfRefusal {A = A} (Err e) R
weaker A B (fault.Refused refusal) P R f h = f refusal h
weaker A B (fault.Line line) P R f h = tt
weaker A B fault.Unended P R f h = tt
weaker A B fault.Memory P R f h = tt

pub refused_on : {A : Type 0} {Q : StageFault → Type 0} (B : Type 0) (r : Result A StageFault) (e : StageFault) (P R : Refusal → Type 0) → IsErrAnd r Q → ((y : StageFault) → Q y → y ≡ e)
    → ((refusal : Refusal) → P refusal → R refusal) → IfRefusal {A = B} (Err e) P → IfRefusal r R
refused_on B (Ok x) e P R is same f h = absurd is
refused_on {A} B (Err y) e P R is same f h =
    let z : y ≡ e = same y is in
    subst (λ v. IfRefusal {A = A} (Err v) R) (sym z) (weaker A B e P R f h)
