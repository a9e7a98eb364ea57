-- When two values are there in one cycle.
use Rattle.std.proofs.Common.{◌≡◌, ℕ, ◌+◌, ◌*◌, ◌-◌, ◌/◌, ◌%◌, ◌<◌, ◌≤◌, ◌⊎◌, min, max, Some, None, inl, inr, arith}
use Rattle.std.proofs.Math.Nat.{add-mul, mul-le-mul_right}
use Rattle.std.proofs.lemmas.Bool.{cases_lt}
use Rattle.std.proofs.lemmas.Nat.{div-add-mod'}
use Rattle.reg_binding.specs.declared.life.Life.{Life}
use Rattle.reg_binding.specs.Sharing.{IsInIteration, IsThere, Meet}

-- of numbers that are equal but for periods one below the period is the least
pub least : (p v c k l : ℕ) → v + k * p ≡ c + l * p → c < p → c ≤ v
least p v c k l e lt = elim (cases_lt l k) [
  | inr le ↦ (let grows : k * p ≤ l * p = mul-le-mul_right p le in omega arith)
  | inl more ↦ (let grows : (l + 1) * p ≤ k * p = mul-le-mul_right p (omega arith) in
      let apart : (l + 1) * p ≡ l * p + 1 * p = add-mul l 1 p in
      omega arith)
]

-- ---- how long one time that comes again each period is behind another

pub ahead_of : (p t o : ℕ) → (o % p ≤ t % p) → t + (o / p) * p ≡ o + (t / p) * p + (t % p - o % p)
ahead_of p t o le = (let of_t = div-add-mod' t p in let of_o = div-add-mod' o p in omega arith)

pub ahead_next : (p t o : ℕ) → (t % p < o % p) → o % p < p → t + (o / p + 1) * p ≡ o + (t / p) * p + (p - o % p + t % p)
ahead_next p t o lt in_ = (let of_t = div-add-mod' t p in let of_o = div-add-mod' o p in let apart : (o / p + 1) * p ≡ o / p * p + 1 * p = add-mul (o / p) 1 p in omega arith)

-- ---- iterations

-- one is behind the other by less than the other is there
pub meet_behind : (p c : ℕ) (one other : Life) → (n m : ℕ) → one.start + n * p ≡ other.start + m * p + c → c < other.length → 0 < one.length
    → (time : ℕ) × IsInIteration p one time × IsInIteration p other time
meet_behind p c one other n m e lt some = (one.start + n * p, (n, omega arith, omega arith), (m, omega arith, omega arith))

pub meet_ahead : (p c : ℕ) (one other : Life) → (n m : ℕ) → one.start + n * p ≡ other.start + m * p + c → c < other.length → 0 < one.length
    → (time : ℕ) × IsInIteration p other time × IsInIteration p one time
meet_ahead p c one other n m e lt some = (one.start + n * p, (m, omega arith, omega arith), (n, omega arith, omega arith))

-- a later start is behind by no less
behind_by : (p c v a b n m k l : ℕ) → a + n * p ≡ b + m * p + c → c < p → a + k * p ≡ b + l * p + v → c ≤ v
behind_by p c v a b n m k l e lt f =
    let left : (l + n) * p ≡ l * p + n * p = add-mul l n p in
    let right : (m + k) * p ≡ m * p + k * p = add-mul m k p in
    least p v c (l + n) (m + k) (omega arith) lt

module _ (p c d : ℕ) (one other : Life) (n m k l : ℕ)
    (e : one.start + n * p ≡ other.start + m * p + c) (c_less : c < p) (f : other.start + k * p ≡ one.start + l * p + d) (d_less : d < p) where
  pub meeting : (time : ℕ) → IsInIteration p one time → IsInIteration p other time → (0 < one.length) × (0 < other.length) × ((c < other.length) ⊎ (d < one.length))
  meeting time x y = (
    omega (arith, x.1, x.2),
    omega (arith, y.1, y.2),
    elim (cases_lt (one.start + x.0 * p) (other.start + y.0 * p)) [
      | inr le ↦ (let by : c ≤ one.start + x.0 * p - (other.start + y.0 * p) = behind_by p c (one.start + x.0 * p - (other.start + y.0 * p)) one.start other.start n m x.0 y.0 e c_less (omega arith) in
          inl (omega (arith, x.1, x.2, y.1, y.2, by)))
      | inl lt ↦ (let by : d ≤ other.start + y.0 * p - (one.start + x.0 * p) = behind_by p d (other.start + y.0 * p - (one.start + x.0 * p)) other.start one.start k l y.0 x.0 f d_less (omega arith) in
          inr (omega (arith, x.1, x.2, y.1, y.2, by)))
    ],
  )

-- ---- loops

pub there_first : (p : ℕ) (life : Life) (time : ℕ) → 0 < life.length → life.start < time → (t : ℕ) × (t < time) × IsThere (Some p) life t
there_first p life time some lt = (life.start, lt, inr (0, omega arith, omega arith))

pub there_long : (p : ℕ) (life : Life) (time : ℕ) → min life.entry time ≤ 0 → (t : ℕ) → t < time → IsThere (Some p) life t → life.start < time
there_long p life time none t lt (inl x) = absurd (omega arith)
there_long p life time none t lt (inr x) = omega (arith, x.1, x.2)

-- what two values of a loop have in common
pub data MeetsBy (p : ℕ) (one other : Life) : Type 0 where
  by_entry : (t : ℕ) → t < other.entry → IsThere (Some p) one t → MeetsBy p one other
  by_other_entry : (t : ℕ) → t < one.entry → IsThere (Some p) other t → MeetsBy p one other
  by_iterations : (t : ℕ) → IsInIteration p one t → IsInIteration p other t → MeetsBy p one other

meets_at : (p : ℕ) (one other : Life) (t : ℕ) → IsThere (Some p) one t → IsThere (Some p) other t → MeetsBy p one other
meets_at p one other t (inl x) y = by_other_entry t x y
meets_at p one other t (inr x) (inl y) = by_entry t y (inr x)
meets_at p one other t (inr x) (inr y) = by_iterations t x y

pub meets_by : (p : ℕ) (one other : Life) → Meet (Some p) one other → MeetsBy p one other
meets_by p one other meet = meets_at p one other meet.time meet.there meet.there_too

-- ---- blocks

pub in_block : (one other : Life) → Meet None one other → (max one.start other.start - one.start < one.length) × (max one.start other.start - other.start < other.length)
in_block one other meet = (omega (arith, meet.there.0, meet.there.1, meet.there_too.0, meet.there_too.1), omega (arith, meet.there.0, meet.there.1, meet.there_too.0, meet.there_too.1))

pub meet_in_block : (one other : Life) → max one.start other.start - one.start < one.length → max one.start other.start - other.start < other.length → Meet None one other
meet_in_block one other x y = record { time = max one.start other.start; there = (omega arith, omega arith); there_too = (omega arith, omega arith) }
