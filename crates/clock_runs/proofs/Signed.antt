-- Where a checked sum of signed numbers is in range, its pattern stands for it.
use Rattle.std.proofs.Common.{◌≡◌, ℕ, suc, ◌+◌, ◌-◌, ◌*◌, ◌/◌, ◌^◌, ◌<◌, ◌≤◌, ◌∙◌, sym, ap, inl, inr, true, ℤ, pos, negsuc, ◌+ℤ◌, ◌-ℤ◌, ◌≤ℤ◌, ◌<ℤ◌, neg_ℤ, arith}
use Rattle.std.specs.Prelude.{nat_lt, nat_le, unsigned_abs, int_lt, int_le}
use Rattle.std.specs.Int.{int_rem_euclid}
use Rattle.std.proofs.lemmas.Int.{ints}
use Rattle.std.proofs.lemmas.Bool.{cases_Bool, cases_lt, cond-true, cond-false, and_parts, leb-true, leb-false}
use Rattle.std.proofs.Math.Nat.{mod-add-div', mod-lt, mul-le-mul_right, two-pow-succ}
use Rattle.std.proofs.lemmas.Nat.{pow_pos}
use Rattle.ir_core.specs.Value.{count_of, half_of, number_of, pattern, is_of}

-- two numbers that differ by a multiple of m
abbrev Congruent : ℕ → ℤ → ℤ → Type 0
Congruent m x y = (k : ℕ) × ((l : ℕ) × (x +ℤ pos (k * m) ≡ y +ℤ pos (l * m)))

congruent_plus : (m : ℕ) (x y x1 y1 : ℤ) → Congruent m x x1 → Congruent m y y1 → Congruent m (x +ℤ y) (x1 +ℤ y1)
congruent_plus m x y x1 y1 p q =
    let a : (p.0 + q.0) * m ≡ p.0 * m + q.0 * m = omega arith in
    let b : (p.1.0 + q.1.0) * m ≡ p.1.0 * m + q.1.0 * m = omega arith in
    let e = p.1.1 in
    let f = q.1.1 in
    (p.0 + q.0, (p.1.0 + q.1.0, omega (arith, ints, a, b, e, f)))

congruent_minus : (m : ℕ) (x y x1 y1 : ℤ) → Congruent m x x1 → Congruent m y y1 → Congruent m (x -ℤ y) (x1 -ℤ y1)
congruent_minus m x y x1 y1 p q =
    let a : (p.0 + q.1.0) * m ≡ p.0 * m + q.1.0 * m = omega arith in
    let b : (p.1.0 + q.0) * m ≡ p.1.0 * m + q.0 * m = omega arith in
    let e = p.1.1 in
    let f = q.1.1 in
    (p.0 + q.1.0, (p.1.0 + q.0, omega (arith, ints, a, b, e, f)))

congruent_back : (m : ℕ) (x y : ℤ) → Congruent m x y → Congruent m y x
congruent_back m x y p = (p.1.0, (p.0, sym p.1.1))

congruent_on : (m : ℕ) (x y z : ℤ) → Congruent m x y → Congruent m y z → Congruent m x z
congruent_on m x y z p q =
    let a : (p.0 + q.0) * m ≡ p.0 * m + q.0 * m = omega arith in
    let b : (p.1.0 + q.1.0) * m ≡ p.1.0 * m + q.1.0 * m = omega arith in
    let e = p.1.1 in
    let f = q.1.1 in
    (p.0 + q.0, (p.1.0 + q.1.0, omega (arith, ints, a, b, e, f)))

-- one number in each stretch of m
only_in : (m : ℕ) (x y least : ℤ) → least ≤ℤ x → x <ℤ (least +ℤ pos m) → least ≤ℤ y → y <ℤ (least +ℤ pos m) → Congruent m x y → x ≡ y
only_in m x y least ax bx ay by_ c =
    let k = c.0 in
    let l = c.1.0 in
    let e = c.1.1 in
    elim (cases_lt k l) [
      | inl lt ↦ let le : (k + 1) * m ≤ l * m = mul-le-mul_right m (let h : k + 1 ≤ l = omega (arith, lt) in h) in absurd (omega (arith, ints, le, ax, bx, ay, by_, e))
      | inr ge ↦ elim (cases_lt l k) [
        | inl lt ↦ let le : (l + 1) * m ≤ k * m = mul-le-mul_right m (let h : l + 1 ≤ k = omega (arith, lt) in h) in absurd (omega (arith, ints, le, ax, bx, ay, by_, e))
        | inr le ↦ let same : k ≡ l = omega (arith, ge, le) in let rows : k * m ≡ l * m = ap (λ n. n * m) same in omega (arith, ints, rows, e)
      ]
    ]

-- ---- patterns

remainder_is : (n : ℤ) (m : ℕ) → 0 < m → (unsigned_abs (int_rem_euclid n (pos m)) < m) × Congruent m (pos (unsigned_abs (int_rem_euclid n (pos m)))) n
remainder_is (pos a) m h = (mod-lt a h, (a / m, (0, let e = mod-add-div' a m in omega (arith, ints, e))))
remainder_is (negsuc a) m h =
    let e = mod-add-div' a m in
    let lt = mod-lt a h in
    (omega (arith, lt), (0, (a / m + 1, omega (arith, ints, e, lt))))

halves : (bits : ℕ) → 1 ≤ bits → (count_of bits ≡ half_of bits + half_of bits) × (0 < half_of bits)
halves bits some =
    elim (cases_Bool (nat_lt bits 64)) [
      | inl on ↦
          let next : bits ≡ suc (bits - 1) = omega (arith, some) in
          let twice : 2 ^ bits ≡ 2 ^ (bits - 1) + 2 ^ (bits - 1) = ap (λ n. 2 ^ n) next ∙ (let d = two-pow-succ (bits - 1) in omega (arith, d)) in
          let c = cond-true _ (2 ^ bits) (2 ^ 64) on in
          let h = cond-true _ (2 ^ (bits - 1)) (2 ^ 63) on in
          let up : 0 < 2 ^ (bits - 1) = pow_pos (bits - 1) in
          (c ∙ twice ∙ sym (ap (λ x. x + x) h), omega (arith, h, up))
      | inr off ↦
          let c = cond-false _ (2 ^ bits) (2 ^ 64) off in
          let h = cond-false _ (2 ^ (bits - 1)) (2 ^ 63) off in
          (c ∙ sym (ap (λ x. x + x) h), omega (arith, h))
    ]

number_congruent : (bits x : ℕ) → Congruent (count_of bits) (number_of true bits x) (pos x)
number_congruent bits x =
    let m = count_of bits in
    elim (cases_Bool (nat_le (half_of bits) x)) [
      | inl on ↦ (1, (0, let e = cond-true _ (pos x -ℤ pos m) (pos x) on in omega (arith, ints, e)))
      | inr off ↦ (0, (0, ap (λ n. n +ℤ pos (0 * m)) (cond-false _ (pos x -ℤ pos m) (pos x) off)))
    ]

number_within : (bits x : ℕ) → 1 ≤ bits → x < count_of bits → (neg_ℤ (pos (half_of bits)) ≤ℤ number_of true bits x) × (number_of true bits x <ℤ (neg_ℤ (pos (half_of bits)) +ℤ pos (count_of bits)))
number_within bits x some lt =
    let m = count_of bits in
    let h = half_of bits in
    let two = halves bits some in
    let twice = two.0 in
    let up = two.1 in
    elim (cases_Bool (nat_le h x)) [
      | inl on ↦ let e = cond-true _ (pos x -ℤ pos m) (pos x) on in let high = leb-true h x on in (omega (arith, ints, e, high, lt, twice, up), omega (arith, ints, e, high, lt, twice, up))
      | inr off ↦ let e = cond-false _ (pos x -ℤ pos m) (pos x) off in let low = leb-false h x off in (omega (arith, ints, e, low, lt, twice, up), omega (arith, ints, e, low, lt, twice, up))
    ]

le_sure : (x y : ℤ) → int_le x y ≡ true → x ≤ℤ y
le_sure x y e = grind (arith, ints)

lt_sure : (x y : ℤ) → int_lt x y ≡ true → x <ℤ y
lt_sure x y e = grind (arith, ints)

-- the pattern of a number in range stands for it
pattern_stands : (bits : ℕ) (n z : ℤ) → 1 ≤ bits → is_of true bits z ≡ true → Congruent (count_of bits) n z → number_of true bits (pattern bits n) ≡ z
pattern_stands bits n z some fits same =
    let m = count_of bits in
    let h = half_of bits in
    let two = halves bits some in
    let twice = two.0 in
    let up = two.1 in
    let r = remainder_is n m (omega (arith, twice, up)) in
    let within = number_within bits (pattern bits n) some r.0 in
    let parts = and_parts (int_le (neg_ℤ (pos h)) z) (int_lt z (pos h)) fits in
    let low = le_sure (neg_ℤ (pos h)) z parts.0 in
    let high = lt_sure z (pos h) parts.1 in
    only_in m (number_of true bits (pattern bits n)) z (neg_ℤ (pos h)) within.0 within.1 low (omega (arith, ints, high, twice))
    (congruent_on m (number_of true bits (pattern bits n)) (pos (pattern bits n)) z (number_congruent bits (pattern bits n)) (congruent_on m (pos (pattern bits n)) n z r.1 same))

pub sum_stands : (bits x y : ℕ) → 1 ≤ bits → is_of true bits (number_of true bits x +ℤ number_of true bits y) ≡ true
    → number_of true bits (pattern bits (pos x +ℤ pos y)) ≡ number_of true bits x +ℤ number_of true bits y
sum_stands bits x y some fits =
    let m = count_of bits in
    pattern_stands bits (pos x +ℤ pos y) (number_of true bits x +ℤ number_of true bits y) some fits
    (congruent_plus m (pos x) (pos y) (number_of true bits x) (number_of true bits y) (congruent_back m (number_of true bits x) (pos x) (number_congruent bits x)) (congruent_back m (number_of true bits y) (pos y) (number_congruent bits y)))

pub difference_stands : (bits x y : ℕ) → 1 ≤ bits → is_of true bits (number_of true bits x -ℤ number_of true bits y) ≡ true
    → number_of true bits (pattern bits (pos x -ℤ pos y)) ≡ number_of true bits x -ℤ number_of true bits y
difference_stands bits x y some fits =
    let m = count_of bits in
    pattern_stands bits (pos x -ℤ pos y) (number_of true bits x -ℤ number_of true bits y) some fits
    (congruent_minus m (pos x) (pos y) (number_of true bits x) (number_of true bits y) (congruent_back m (number_of true bits x) (pos x) (number_congruent bits x)) (congruent_back m (number_of true bits y) (pos y) (number_congruent bits y)))
