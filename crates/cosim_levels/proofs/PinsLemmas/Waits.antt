-- Waiting for an output.
use Rattle.std.proofs.Common.{◌≡◌, ℕ, zero, suc, ◌+◌, ◌<◌, ◌≤◌, ◌==◌, Bool, true, false, List, Some, None, refl, sym, ap, ◌∙◌, arith, inl, inr, add-one}
use Rattle.std.specs.Prelude.{find}
use Rattle.std.specs.List.{range_with_len}
use Rattle.std.proofs.lemmas.Bool.{cases_lt}
use Rattle.cosim_levels.specs.Pins.Host.{Driven, clocked, low_row, waited, first_high}

find_there : (p : ℕ → Bool) (a n k : ℕ) → ((j : ℕ) → j < k → p (a + j) ≡ false) → k < n → p (a + k) ≡ true → find p (range_with_len a n) ≡ Some (a + k)
find_there p a zero k before inside here = absurd (omega arith)
find_there p a (suc n) zero before inside here =
    let at : a + 0 ≡ a = omega arith in
    let first : p a ≡ true = rw at at here in
    rw (first, at) refl
find_there p a (suc n) (suc k) before inside here =
    let first : p a ≡ false = (let at : a + 0 ≡ a = omega arith in rw at at (before 0 (omega arith))) in
    let place : a + suc k ≡ (a + 1) + k = omega arith in
    rw (first, place) (find_there p (a + 1) n k (λ j h. (let next : a + suc j ≡ (a + 1) + j = omega arith in rw next at (before (suc j) (omega arith)))) (omega arith) (rw place at here))

find_nowhere : (p : ℕ → Bool) (a n : ℕ) → ((j : ℕ) → j < n → p (a + j) ≡ false) → find p (range_with_len a n) ≡ None
find_nowhere p a zero none = refl
find_nowhere p a (suc n) none =
    let first : p a ≡ false = (let at : a + 0 ≡ a = omega arith in rw at at (none 0 (omega arith))) in
    rw first (find_nowhere p (a + 1) n (λ j h. (let next : a + suc j ≡ (a + 1) + j = omega arith in rw next at (none (suc j) (omega arith)))))

-- so many cycles were waited, and the output was low in each
pub record IsWaiting (pin : List ℕ → ℕ) (old new : Driven) (k : ℕ) : Type 0 where
  pub behind : new ≡ waited old k
  pub low : (j : ℕ) → j < k → (pin (waited old (1 + j)).outs == 1) ≡ false

pub not_waited : (pin : List ℕ → ℕ) (old : Driven) → IsWaiting pin old old 0
not_waited pin old = record { behind = refl; low = λ j h. absurd (omega arith) }

pub waited-arguments : (s : Driven) (k : ℕ) → (waited s k).arguments ≡ s.arguments
waited-arguments s zero = refl
waited-arguments s (suc k) = waited-arguments s k

module _ (pin : List ℕ → ℕ) (old new next : Driven) (k : ℕ) (at : IsWaiting pin old new k) (step : next ≡ clocked new (low_row new.arguments)) where
  pub behind_wait : next ≡ waited old (k + 1)
  behind_wait = step ∙ ap (λ (s : Driven). clocked s (low_row s.arguments)) at.behind ∙ ap (λ n. clocked (waited old k) (low_row n)) (waited-arguments old k) ∙ ap (waited old) (sym (add-one k))

  pub waits_on : (pin next.outs == 1) ≡ false → IsWaiting pin old next (k + 1)
  waits_on low = record {
    behind = behind_wait;
    low = λ j h. elim (cases_lt j k) [
      | inl less ↦ at.low j less
      | inr more ↦ (
          let same : 1 + j ≡ k + 1 = omega arith in
          rw same (rw (← behind_wait) low))
    ];
  }

  pub wait_over : (n : ℕ) → k < n → (pin next.outs == 1) ≡ true → Some (k + 1) ≡ first_high pin old n
  wait_over n inside high =
      let same : 1 + k ≡ k + 1 = omega arith in
      let here : (pin (waited old (1 + k)).outs == 1) ≡ true = rw same (rw (← behind_wait) high) in
      sym (rw same at (find_there (λ j. pin (waited old j).outs == 1) 1 n k at.low inside here))

pub wait_vain : (pin : List ℕ → ℕ) (old new : Driven) (k n : ℕ) → IsWaiting pin old new k → n ≤ k → None ≡ first_high pin old n
wait_vain pin old new k n at over = sym (find_nowhere (λ j. pin (waited old j).outs == 1) 1 n (λ j h. at.low j (omega arith)))
