-- The stores of a cycle, one operation after another.
use Rattle.std.proofs.Common.{◌≡◌, ℕ, zero, suc, ◌+◌, ◌<◌, ◌≤◌, inl, inr, List, [], ◌∷◌, length, get_or, drop, slice_get, Some, sym, ap, ◌∙◌, arith}
use Rattle.std.proofs.lemmas.Bool.{cases_lt}
use Rattle.std.proofs.lemmas.List.{drop_more, drop_all}
use Rattle.std.proofs.lemmas.Option.{slice_get-get_or}
use Rattle.ir_core.specs.Bodies.{Shapes}
use Rattle.clock_ir.specs.Flows.{TimedOp, TimedBody, Flow, behind_stores}
use Rattle.clock_machine.specs.Starting.{stored_by}

-- some operation of a body that has one
pub some_op : (xs : List TimedOp) (k : ℕ) → k < length xs → TimedOp
some_op [] k lt = absurd (omega (arith, lt))
some_op (x ∷ xs) k lt = x

module _ (shapes : Shapes) (b : TimedBody) (f : Flow) where
  -- from operation k on
  abbrev pub from : ℕ → (ℕ → ℕ → ℕ) → ℕ → ℕ → ℕ
  from k memories = behind_stores shapes b f (drop k b.ops) memories

  pub one_on : (k : ℕ) (memories : ℕ → ℕ → ℕ) → k < length b.ops → (op : TimedOp) × ((slice_get b.ops k ≡ Some op) × (from k memories ≡ from (k + 1) (stored_by shapes b f op memories)))
  one_on k memories lt =
      let d = some_op b.ops k lt in (
        get_or b.ops k d,
        (slice_get-get_or b.ops k d lt, ap (λ ops. behind_stores shapes b f ops memories) (drop_more b.ops k d lt)),
      )

  -- operations that store nothing
  pub rests_on : (k n : ℕ) (memories : ℕ → ℕ → ℕ) → ((i : ℕ) (op : TimedOp) → k ≤ i → i < k + n → slice_get b.ops i ≡ Some op → stored_by shapes b f op memories ≡ memories) → from k memories ≡ from (k + n) memories
  rests_on k zero memories h = ap (λ i. from i memories) (let z : k ≡ k + 0 = omega arith in z)
  rests_on k (suc n) memories h = elim (cases_lt k (length b.ops)) [
    | inl lt ↦
        let one = one_on k memories lt in
        let same = h k one.0 (omega arith) (omega arith) one.1.0 in
        one.1.1 ∙ ap (from (k + 1)) same
        ∙ rests_on (k + 1) n memories (λ i op low high is. h i op (omega (arith, low)) (omega (arith, high)) is)
        ∙ ap (λ i. from i memories) (let z : k + 1 + n ≡ k + suc n = omega arith in z)
    | inr no_ ↦
        ap (λ ops. behind_stores shapes b f ops memories) (drop_all k b.ops no_) ∙ sym (ap (λ ops. behind_stores shapes b f ops memories) (drop_all (k + suc n) b.ops (omega (arith, no_))))
  ]

  pub none_left : (k : ℕ) (memories : ℕ → ℕ → ℕ) → length b.ops ≤ k → from k memories ≡ memories
  none_left k memories le = ap (λ ops. behind_stores shapes b f ops memories) (drop_all k b.ops le)
