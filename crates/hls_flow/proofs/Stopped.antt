-- What holds of a verdict that is there already holds where it is passed on.
use Rattle.std.proofs.Common.{◌≡◌, sym, subst, Result, Ok, Err}
use Rattle.std.specs.Result.{IsErrAnd}
use Rattle.cosim_levels.specs.declared.verdict.Stop.{Stop}
use Rattle.cosim_levels.specs.declared.verdict.Stop.TheVariants.{Answer, Memory}
use Rattle.cosim_levels.specs.Verdicts.{PlainVerdict, verdict_of, IfStopped}

weaker : (A B : Type 0) (e : Stop) (P R : PlainVerdict → Type 0) → ((v : PlainVerdict) → P v → R v) → IfStopped {A = B} (Err e) P → IfStopped {A = A} (Err e) R
weaker A B (Answer v) P R f h = f (verdict_of v) h
weaker A B Memory P R f h = tt

pub stopped_on : {A : Type 0} {Q : Stop → Type 0} (B : Type 0) (r : Result A Stop) (e : Stop) (P R : PlainVerdict → Type 0) → IsErrAnd r Q → ((y : Stop) → Q y → y ≡ e) → ((v : PlainVerdict) → P v → R v) → IfStopped {A = B} (Err e) P → IfStopped r R
stopped_on B (Ok x) e P R is same f h = absurd is
stopped_on {A} B (Err y) e P R is same f h =
    let z : y ≡ e = same y is in
    subst (λ v. IfStopped {A = A} (Err v) R) (sym z) (weaker A B e P R f h)
