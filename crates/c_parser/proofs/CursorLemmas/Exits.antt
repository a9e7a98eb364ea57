-- What a part that is absent says of the whole.
use Rattle.std.proofs.Common.{◌≡◌, subst, sym, Result, Ok, Err}
use Rattle.std.specs.Result.{IsErrAnd}
use Rattle.c_parser.specs.declared.cursor.stop.Stop.{Stop}
use Rattle.c_parser.specs.declared.cursor.stop.Stop.TheVariants.{Absent, Memory}
use Rattle.c_parser.specs.Cursor.Stops.{IfAbsent}

pub IfAbsent-weaker : {A : Type 0} (r : Result A Stop) (P R : Type 0) → (P → R) → IfAbsent r P → IfAbsent r R
IfAbsent-weaker (Ok x) P R f h = tt
IfAbsent-weaker (Err Absent) P R f h = f h
IfAbsent-weaker (Err Memory) P R f h = tt

-- at the exit of a `?`
pub through : {A : Type 0} {Q : Stop → Type 0} (r : Result A Stop) (e : Stop) (P R : Type 0) → IsErrAnd r Q → ((y : Stop) → Q y → y ≡ e) → IfAbsent {A = A} (Err e) P → (P → R) → IfAbsent r R
through (Ok x) e P R is same h f = absurd is
through {A} (Err y) e P R is same h f = IfAbsent-weaker {A = A} (Err y) P R f (subst (λ z. IfAbsent {A = A} (Err z) P) (sym (same y is)) h)
