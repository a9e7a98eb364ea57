-- What an agenda tells: for each phase the operations whose time has it, in order.
use Rattle.std.specs.Prelude.{◌≡◌, ◌≢◌, ℕ, suc, ◌<◌, ◌≤◌, ◌%◌, List, length, get_or}

abbrev pub phase_at : ℕ → List ℕ → ℕ → ℕ
phase_at interval times k = get_or times k 0 % interval

-- the first operation from one on whose time has this phase; behind the last one where there is none
pub record IsNext (interval : ℕ) (times : List ℕ) (phase start k : ℕ) : Type 0 where
  pub behind : start ≤ k
  pub within : k ≤ length times
  pub none_before : (i : ℕ) → start ≤ i → i < k → phase_at interval times i ≢ phase
  pub at : k < length times → phase_at interval times k ≡ phase

pub record IsAgenda (interval : ℕ) (times heads links : List ℕ) : Type 0 where
  pub first : (phase : ℕ) → phase < interval → IsNext interval times phase 0 (get_or heads phase 0)
  pub next : (k : ℕ) → k < length times → IsNext interval times (phase_at interval times k) (suc k) (get_or links k 0)
