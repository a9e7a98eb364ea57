-- From the work of a command to its outcome.
use Rattle.std.proofs.Common.{◌≡◌, ap, ◌∙◌, sym, subst, Result, Ok, Err}
use Rattle.std.specs.Result.{IsErrAnd, IfOk}
use Rattle.hls_base.specs.declared.refusal.Fail.{Fail}
use Rattle.hls_base.specs.declared.refusal.Fail.TheVariants.{Refused, Memory}
use Rattle.hls_base.specs.declared.refusal.Refusal.{Refusal}
use Rattle.hls_base.specs.Refusals.{IfRefused}
use Rattle.module_commands.specs.declared.outcome.Outcome.{Outcome}
use Rattle.module_commands.specs.Outcomes.{IsRefusal, IsSettled}

-- What holds of the outcome of the work, and of the outcome of each of its refusals, holds of the command's outcome.
pub settled_is : {E : Type 0} (work : Result Outcome Fail) (settled : Result Outcome E) (P : Outcome → Type 0) (Q : Refusal → Type 0)
    → IfOk work P → IfRefused work Q → ((r : Refusal) (o : Outcome) → Q r → IsRefusal r o → P o) → IfOk settled (IsSettled work) → IfOk settled P
settled_is work (Err e) P Q done refused f h = tt
settled_is (Ok given) (Ok o) P Q done refused f h = subst P (sym h) done
settled_is (Err (Refused r)) (Ok o) P Q done refused f h = f r o refused h
settled_is (Err Memory) (Ok o) P Q done refused f h = absurd h

-- Work that cannot be refused is done.
pub settled_done : {E : Type 0} (work : Result Outcome Fail) (settled : Result Outcome E) (A : Type 0)
    → IfOk work (λ o. o.status ≡ 0) → IfRefused work (λ r. A → ⊥) → A → IfOk settled (IsSettled work) → IfOk settled (λ o. o.status ≡ 0)
settled_done work (Err e) A done refused a h = tt
settled_done (Ok given) (Ok o) A done refused a h = ap (λ (x : Outcome). x.status) h ∙ done
settled_done (Err (Refused r)) (Ok o) A done refused a h = absurd (refused a)
settled_done (Err Memory) (Ok o) A done refused a h = absurd h

-- A refusal that is passed on by `?` is the same refusal.
pub passed_on : {A : Type 0} {Q : Fail → Type 0} (B : Type 0) (r : Result A Fail) (e : Fail) (P R : Refusal → Type 0)
    → IsErrAnd r Q → ((y : Fail) → Q y → y ≡ e) → ((x : Refusal) → P x → R x) → IfRefused {A = B} (Err e) P → IfRefused r R
passed_on B (Ok x) e P R is same f h = absurd is
passed_on {A} B (Err y) e P R is same f h = subst (λ z. IfRefused {A = A} (Err z) R) (sym (same y is)) (weaker e h)
  where
    weaker : (e : Fail) → IfRefused {A = B} (Err e) P → IfRefused {A = A} (Err e) R
    weaker (Refused x) h = f x h
    weaker Memory h = tt
