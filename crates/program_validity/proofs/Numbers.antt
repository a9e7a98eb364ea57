-- Powers of two, and products that are cut off.
use Rattle.std.proofs.Common.{◌≡◌, ℕ, zero, suc, ◌+◌, ◌*◌, ◌^◌, ◌<◌, ◌≤◌, ◌∙◌, sym, ap, inl, inr, List, length, drop, drop-cons, get_or, arith}
use Rattle.std.specs.Prelude.{min}
use Rattle.std.proofs.Math.Nat.{mul_assoc, mul-le-mul_right, le-mul_of_pos_right, min-eq_left, min-eq_right}
use Rattle.std.proofs.Math.Pow.{pow_mono}
use Rattle.std.proofs.lemmas.Bool.{cases_lt}
use Rattle.std.proofs.lemmas.List.{drop_all}
use Rattle.hls_base.specs.ArrayAddress.{element_count}

pub below_power : (v n : ℕ) → v < 2 ^ 64 → 64 ≤ n → v < 2 ^ n
below_power v n small up = let p : 2 ^ 64 ≤ 2 ^ n = pow_mono up in omega arith

-- a product that is cut off at a limit, and times another number cut off again, is the whole product cut off
pub cut_twice : (m p e : ℕ) → min (min p m * e) m ≡ min (p * e) m
cut_twice m p zero =
    let one : min p m * zero ≡ zero = omega arith in
    let other : p * zero ≡ zero = omega arith in
    ap (λ x. min x m) (one ∙ sym other)
cut_twice m p (suc e) = elim (cases_lt m p) [
  | inl above ↦
      let low : m ≤ p = omega arith in
      let cut : min p m ≡ m = min-eq_right low in
      let one : m ≤ m * suc e = le-mul_of_pos_right m (omega arith) in
      let other : m * suc e ≤ p * suc e = mul-le-mul_right (suc e) low in
      let whole : m ≤ p * suc e = omega (arith, one, other) in
      ap (λ x. min (x * suc e) m) cut ∙ (min-eq_right one ∙ sym (min-eq_right whole))
  | inr low ↦ ap (λ x. min (x * suc e) m) (min-eq_left low)
]

pub product_on : (m a d e : ℕ) → min (min (a * d) m * e) m ≡ min (a * (d * e)) m
product_on m a d e = cut_twice m (a * d) e ∙ ap (λ x. min x m) (mul_assoc a d e)

-- ---- the elements of dimensions that are multiplied one after another, up to a limit

pub one_more : (m count i d : ℕ) (dims : List ℕ) → i < length dims
    → min (count * element_count (drop i dims)) m ≡ min (element_count dims) m
    → min (min (count * get_or dims i d) m * element_count (drop (i + 1) dims)) m ≡ min (element_count dims) m
one_more m count i d dims lt e =
    let next : i + 1 ≡ suc i = omega arith in
    ap (λ k. min (min (count * get_or dims i d) m * element_count (drop k dims)) m) next
    ∙ (product_on m count (get_or dims i d) (element_count (drop (suc i) dims))
    ∙ (sym (ap (λ xs. min (count * element_count xs) m) (drop-cons dims i d lt)) ∙ e))

pub all_taken : (m count i : ℕ) (dims : List ℕ) → length dims ≤ i → count ≤ m
    → min (count * element_count (drop i dims)) m ≡ min (element_count dims) m → count ≡ min (element_count dims) m
all_taken m count i dims past small e =
    let once : count * 1 ≡ count = omega arith in
    sym (min-eq_left small) ∙ (sym (ap (λ x. min x m) once) ∙ (sym (ap (λ xs. min (count * element_count xs) m) (drop_all i dims past)) ∙ e))
