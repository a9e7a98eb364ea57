-- Numbers that are congruent have the same pattern.
use Rattle.std.proofs.Common.{◌≡◌, ℕ, ◌+◌, ◌*◌, ◌<◌, ◌≤◌, ◌/◌, sym, ap, inl, inr, ℤ, pos, negsuc, ◌+ℤ◌, ◌≤ℤ◌, ◌<ℤ◌, arith}
use Rattle.std.specs.Prelude.{unsigned_abs}
use Rattle.std.specs.Int.{int_rem_euclid}
use Rattle.std.proofs.lemmas.Int.{ints}
use Rattle.std.proofs.lemmas.Bool.{cases_lt}
use Rattle.std.proofs.Math.Nat.{mod-add-div', mod-lt, mod-eq_of_lt, mul-le-mul_right}

abbrev pub remainder : ℤ → ℕ → ℕ
remainder n m = unsigned_abs (int_rem_euclid n (pos m))

-- the same number but for multiples of m
pub record Congruent (m : ℕ) (x y : ℤ) : Type 0 where
  pub before : ℕ
  pub behind : ℕ
  pub same : x +ℤ pos (before * m) ≡ y +ℤ pos (behind * m)

pub remainder_below : (n : ℤ) (m : ℕ) → 0 < m → remainder n m < m
remainder_below (pos a) m h = mod-lt a h
remainder_below (negsuc a) m h = let lt = mod-lt a h in omega (arith, lt)

pub remainder_congruent : (n : ℤ) (m : ℕ) → 0 < m → Congruent m n (pos (remainder n m))
remainder_congruent (pos a) m h = record { before = 0; behind = a / m; same = let e = mod-add-div' a m in omega (arith, ints, e) }
remainder_congruent (negsuc a) m h =
    let e = mod-add-div' a m in
    let lt = mod-lt a h in
    record { before = a / m + 1; behind = 0; same = omega (arith, ints, e, lt) }

-- one number in each stretch of so many
pub only_in : (m k l : ℕ) (x y least : ℤ) → least ≤ℤ x → x <ℤ (least +ℤ pos m) → least ≤ℤ y → y <ℤ (least +ℤ pos m) → x +ℤ pos (k * m) ≡ y +ℤ pos (l * m) → x ≡ y
only_in m k l x y least ax bx ay by_ e =
    elim (cases_lt k l) [
      | inl lt ↦ let le : (k + 1) * m ≤ l * m = mul-le-mul_right m (let h : k + 1 ≤ l = omega (arith, lt) in h) in absurd (omega (arith, ints, le, ax, bx, ay, by_, e))
      | inr ge ↦ elim (cases_lt l k) [
        | inl lt ↦ let le : (l + 1) * m ≤ k * m = mul-le-mul_right m (let h : l + 1 ≤ k = omega (arith, lt) in h) in absurd (omega (arith, ints, le, ax, bx, ay, by_, e))
        | inr le ↦ let same : k ≡ l = omega (arith, ge, le) in let rows : k * m ≡ l * m = ap (λ n. n * m) same in omega (arith, ints, rows, e)
      ]
    ]

pub congruent_to : (m : ℕ) (x y z : ℤ) → Congruent m x y → Congruent m y z → Congruent m x z
congruent_to m x y z h g = record { before = h.before + g.before; behind = g.behind + h.behind; same = omega (arith, ints, h.same, g.same) }

pub congruent_back : (m : ℕ) (x y : ℤ) → Congruent m x y → Congruent m y x
congruent_back m x y h = record { before = h.behind; behind = h.before; same = sym h.same }

naturals : (a b : ℕ) → pos a ≡ pos b → a ≡ b
naturals a b e = omega (arith, ints, e)

pub remainder_only : (m : ℕ) (n : ℤ) (r : ℕ) → r < m → Congruent m n (pos r) → remainder n m ≡ r
remainder_only m n r lt h =
    let some : 0 < m = omega (arith, lt) in
    let below = remainder_below n m some in
    let c = congruent_to m (pos (remainder n m)) n (pos r) (congruent_back m n (pos (remainder n m)) (remainder_congruent n m some)) h in
    naturals (remainder n m) r
    (only_in m c.before c.behind (pos (remainder n m)) (pos r) (pos 0) (omega (arith, ints)) (omega (arith, ints, below)) (omega (arith, ints)) (omega (arith, ints, lt)) c.same)

pub same_remainder : (m : ℕ) (x y : ℤ) → 0 < m → Congruent m x y → remainder x m ≡ remainder y m
same_remainder m x y some h =
    remainder_only m x (remainder y m) (remainder_below y m some) (congruent_to m x y (pos (remainder y m)) h (remainder_congruent y m some))

pub remainder_small : (n m : ℕ) → n < m → remainder (pos n) m ≡ n
remainder_small n m h = mod-eq_of_lt h
