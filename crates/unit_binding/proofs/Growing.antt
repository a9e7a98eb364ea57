-- Copies that grow by one operation at the end.
use Rattle.std.proofs.Common.{◌≡◌, ℕ, suc, ◌+◌, List, [], ◌∷◌, ◌++◌, length, slice_index, subst, arith}
use Rattle.ir_core.specs.declared.body.Op.{Op}
use Rattle.ir_core.specs.declared.stamp.Untimed.{Untimed}
use Rattle.ir_core.specs.declared.timed.Timed.{Timed}
use Rattle.unit_binding.specs.Copies.{IsTimedCopy, AreTimedCopies}

pub copies_grow : (times units : List ℕ) (k : ℕ) (ops : List (Op Untimed)) (copies : List (Op Timed)) (op : Op Untimed) (copy : Op Timed) →
    AreTimedCopies times units k ops copies →
    IsTimedCopy op (slice_index times (k + length ops + 1)) (slice_index units (k + length ops)) copy →
    AreTimedCopies times units k (ops ++ op ∷ []) (copies ++ copy ∷ [])
copies_grow times units k [] [] op copy all here =
    let same : k + 0 ≡ k = omega arith in
    (subst (λ n. IsTimedCopy op (slice_index times (n + 1)) (slice_index units n) copy) same here, tt)
copies_grow times units k [] (c ∷ cs) op copy all here = absurd all
copies_grow times units k (o ∷ os) [] op copy all here = absurd all
copies_grow times units k (o ∷ os) (c ∷ cs) op copy (first, rest) here =
    let same : k + length (o ∷ os) ≡ suc k + length os = omega arith in
    (first, copies_grow times units (suc k) os cs op copy rest (subst (λ n. IsTimedCopy op (slice_index times (n + 1)) (slice_index units n) copy) same here))
