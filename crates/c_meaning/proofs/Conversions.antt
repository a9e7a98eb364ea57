-- Numbers that are congruent, and the parts of a division.
use Rattle.std.proofs.Common.{◌≡◌, ℕ, zero, suc, ◌+◌, ◌-◌, ◌*◌, ◌^◌, ◌<◌, ◌≤◌, ◌∙◌, ◌/◌, sym, refl, ap, subst, inl, inr, true, false, ℤ, pos, negsuc, ◌+ℤ◌, ◌-ℤ◌, ◌≤ℤ◌, ◌<ℤ◌, neg_ℤ, arith, if◌then◌else◌}
use Rattle.std.specs.Prelude.{nat_lt, nat_le, unsigned_abs, int_rem}
use Rattle.std.specs.Int.{int_rem_euclid}
use Rattle.std.proofs.lemmas.Int.{ints, quot-rem, rem_below}
use Rattle.std.proofs.lemmas.Bool.{cases_Bool, cases_lt, ltb-true, ltb-false}
use Rattle.std.proofs.Math.Nat.{mod-add-div', mod-lt, mul-le-mul_right, two-pow-succ}
use Rattle.std.proofs.lemmas.Nat.{pow_pos}
use Rattle.c_token.specs.declared.ctype.CType.{CType}
use Rattle.c_value.specs.Values.{integer, bits_of, width, convert, IsOf}
use Rattle.c_meaning.specs.ValueLaws.{IsCongruent, Converted, ConversionsAreCongruent, DivisionsTruncate}

-- ---- remainders

-- the remainder that is not negative
abbrev remainder : ℤ → ℕ → ℕ
remainder n m = unsigned_abs (int_rem_euclid n (pos m))

record Parts (n : ℤ) (m : ℕ) : Type 0 where
  below : remainder n m < m
  before : ℕ
  behind : ℕ
  same : n +ℤ pos (before * m) ≡ pos (remainder n m) +ℤ pos (behind * m)

parts : (n : ℤ) (m : ℕ) → 0 < m → Parts n m
parts (pos a) m h = record {
  below = mod-lt a h;
  before = 0;
  behind = a / m;
  same = let e = mod-add-div' a m in omega (arith, ints, e);
}
parts (negsuc a) m h =
    let e = mod-add-div' a m in
    let lt = mod-lt a h in
    record {
      below = omega (arith, lt);
      before = a / m + 1;
      behind = 0;
      same = omega (arith, ints, e, lt);
    }

-- ---- one number in each stretch of so many

only_in : (m k l : ℕ) (x y least : ℤ) → least ≤ℤ x → x <ℤ (least +ℤ pos m) → least ≤ℤ y → y <ℤ (least +ℤ pos m) → x +ℤ pos (k * m) ≡ y +ℤ pos (l * m) → x ≡ y
only_in m k l x y least ax bx ay by_ e =
    elim (cases_lt k l) [
      | inl lt ↦ let le : (k + 1) * m ≤ l * m = mul-le-mul_right m (let h : k + 1 ≤ l = omega (arith, lt) in h) in absurd (omega (arith, ints, le, ax, bx, ay, by_, e))
      | inr ge ↦ elim (cases_lt l k) [
        | inl lt ↦ let le : (l + 1) * m ≤ k * m = mul-le-mul_right m (let h : l + 1 ≤ k = omega (arith, lt) in h) in absurd (omega (arith, ints, le, ax, bx, ay, by_, e))
        | inr le ↦ let same : k ≡ l = omega (arith, ge, le) in let rows : k * m ≡ l * m = ap (λ n. n * m) same in omega (arith, ints, rows, e)
      ]
    ]

-- ---- divisions

remainder_up : (x y : ℤ) → pos 0 ≤ℤ x → pos 0 ≤ℤ int_rem x y
remainder_up (pos a) y h = omega (arith, ints)
remainder_up (negsuc a) y h = absurd (omega (arith, ints, h))

remainder_down : (x y : ℤ) → x ≤ℤ pos 0 → int_rem x y ≤ℤ pos 0
remainder_down (pos zero) y h = omega (arith, ints)
remainder_down (pos (suc a)) y h = absurd (omega (arith, ints, h))
remainder_down (negsuc a) y h = omega (arith, ints)

pub divisions_truncate : DivisionsTruncate
divisions_truncate x y h = record { whole = quot-rem x y; below = rem_below x y h; not_negative = remainder_up x y; not_positive = remainder_down x y }

-- ---- conversions

bits_positive : (bits : ℕ) → 0 < bits_of bits
bits_positive bits =
    elim (cases_Bool (nat_le bits 8)) [
      | inl t ↦ rw t (omega arith)
      | inr f ↦ elim (cases_Bool (nat_le bits 16)) [
        | inl t ↦ rw (f, t) (omega arith)
        | inr g ↦ elim (cases_Bool (nat_le bits 32)) [
          | inl t ↦ rw (f, g, t) (omega arith)
          | inr h ↦ rw (f, g, h) (omega arith)
        ]
      ]
    ]

twice : (b : ℕ) → 0 < b → 2 ^ b ≡ 2 ^ (b - 1) + 2 ^ (b - 1)
twice zero h = absurd (omega arith)
twice (suc b) h = let e : suc b - 1 ≡ b = omega arith in rw e (two-pow-succ b)

one_only : (kind : CType) (n c m least : ℤ) → least ≤ℤ c → c <ℤ (least +ℤ pos (2 ^ width kind)) → least ≤ℤ m → m <ℤ (least +ℤ pos (2 ^ width kind)) → IsCongruent kind n c → IsCongruent kind n m → m ≡ c
one_only kind n c m least ac bc am bm g h =
    let e : m +ℤ pos ((h.behind + g.before) * 2 ^ width kind) ≡ c +ℤ pos ((g.behind + h.before) * 2 ^ width kind) = omega (arith, ints, g.same, h.same) in
    only_in (2 ^ width kind) (h.behind + g.before) (g.behind + h.before) m c least am bm ac bc e

converted_as : (kind : CType) (n c : ℤ) → c ≡ convert kind n → IsOf kind c → IsCongruent kind n c → ((m : ℤ) → IsOf kind m → IsCongruent kind n m → m ≡ c) → Converted kind n
converted_as kind n c e is_of congruent only = record {
  is_of = subst (IsOf kind) e is_of;
  congruent = subst (IsCongruent kind n) e congruent;
  only = λ m h g. only m h g ∙ e;
}

unsigned_converted : (bits : ℕ) (n : ℤ) → Converted (integer false bits) n
unsigned_converted bits n =
    let p = parts n (2 ^ bits_of bits) (pow_pos (bits_of bits)) in
    let c : ℤ = pos (remainder n (2 ^ bits_of bits)) in
    let congruent : IsCongruent (integer false bits) n c = record { before = p.before; behind = p.behind; same = p.same } in
    converted_as (integer false bits) n c refl (omega (arith, ints), omega (arith, ints, p.below)) congruent
    (λ m h g. one_only (integer false bits) n c m (pos 0) (omega (arith, ints)) (omega (arith, ints, p.below)) h.0 (omega (arith, ints, h.1, p.below)) congruent g)

signed_converted : (bits : ℕ) (n : ℤ) → Converted (integer true bits) n
signed_converted bits n =
    let p = parts n (2 ^ bits_of bits) (pow_pos (bits_of bits)) in
    let two = twice (bits_of bits) (bits_positive bits) in
    let some = pow_pos (bits_of bits - 1) in
    let r = remainder n (2 ^ bits_of bits) in
    elim (cases_Bool (nat_lt r (2 ^ (bits_of bits - 1)))) [
      | inl t ↦
          let low = ltb-true r (2 ^ (bits_of bits - 1)) t in
          let congruent : IsCongruent (integer true bits) n (pos r) = record { before = p.before; behind = p.behind; same = p.same } in
          converted_as (integer true bits) n (pos r) (sym (ap (λ b. if b then pos r else (pos r -ℤ pos (2 ^ bits_of bits))) t)) (omega (arith, ints, some), omega (arith, ints, low)) congruent
          (λ m h g. one_only (integer true bits) n (pos r) m (neg_ℤ (pos (2 ^ (bits_of bits - 1)))) (omega (arith, ints, some)) (omega (arith, ints, two, low)) h.0 (omega (arith, ints, h.1, two, some)) congruent g)
      | inr f ↦
          let high = ltb-false r (2 ^ (bits_of bits - 1)) f in
          let c : ℤ = pos r -ℤ pos (2 ^ bits_of bits) in
          let congruent : IsCongruent (integer true bits) n c = record { before = p.before; behind = p.behind + 1; same = omega (arith, ints, p.same) } in
          converted_as (integer true bits) n c (sym (ap (λ b. if b then pos r else (pos r -ℤ pos (2 ^ bits_of bits))) f)) (omega (arith, ints, two, high), omega (arith, ints, some, p.below)) congruent
          (λ m h g. one_only (integer true bits) n c m (neg_ℤ (pos (2 ^ (bits_of bits - 1)))) (omega (arith, ints, two, high)) (omega (arith, ints, two, some, p.below)) h.0 (omega (arith, ints, h.1, two, some)) congruent g)
    ]

pub conversions_are_congruent : ConversionsAreCongruent
conversions_are_congruent false bits n = unsigned_converted bits n
conversions_are_congruent true bits n = signed_converted bits n
