-- The steps of a restoring division.
use Rattle.std.proofs.Common.{◌≡◌, ℕ, ◌+◌, ◌-◌, ◌*◌, ◌/◌, ◌%◌, ◌^◌, ◌<◌, ◌≤◌, Bool, true, false, not, sym, ap, ap₂, ◌∙◌, subst, inl, inr, mod-eq_of_lt, pow_pos, pow-add, arith}
use Rattle.std.specs.Prelude.{nat_le, if◌then◌else◌}
use Rattle.std.proofs.lemmas.Bool.{cases_lt, cases_eq, le-leb, lt-leb}
use Rattle.std.proofs.lemmas.Nat.{div-mul-add, mod-mul-add, mul-add-lt, div_below, mod_below, div-add-mod'}
use Rattle.std.proofs.Math.Nat.{add-mul, mul_assoc, mul_comm, mul_left_comm, mul-zero, zero-mul, le-mul_of_pos_right}
use Rattle.datapath.specs.Cycles.{bit}
use Rattle.circuit_agreement.specs.UnitResults.Divisions.{IsDivided}

-- ---- what a divider makes of its registers

abbrev trial : ℕ → ℕ → ℕ → ℕ
trial bits left remainder = remainder * 2 + left / 2 ^ (bits - 1)

abbrev difference : ℕ → ℕ → ℕ → ℕ → ℕ
difference bits divisor left remainder = (trial bits left remainder + (2 ^ (bits + 1) - divisor)) % 2 ^ (bits + 1)

abbrev borrows : ℕ → ℕ → ℕ → ℕ → Bool
borrows bits divisor left remainder = nat_le (2 ^ bits) (difference bits divisor left remainder)

abbrev next_left : ℕ → ℕ → ℕ → ℕ → ℕ
next_left bits divisor left remainder = left % 2 ^ (bits - 1) * 2 + bit (not (borrows bits divisor left remainder))

abbrev next_remainder : ℕ → ℕ → ℕ → ℕ → ℕ
next_remainder bits divisor left remainder =
    if borrows bits divisor left remainder then trial bits left remainder % 2 ^ bits else difference bits divisor left remainder % 2 ^ bits

abbrev pub StepsDivide : Type 0
StepsDivide = (bits n dividend divisor left remainder : ℕ) → n < bits → divisor < 2 ^ bits → IsDivided bits n dividend divisor left remainder
    → IsDivided bits (n + 1) dividend divisor (next_left bits divisor left remainder) (next_remainder bits divisor left remainder)

-- ---- one step, with the powers of two as numbers

record Step (p n b upper lower quotient left remainder : ℕ) : Type 0 where
  rest : ℕ
  bit : ℕ
  rest_fits : rest < p
  bit_fits : bit < 2
  lower_is : lower ≡ bit * p + rest
  top : left / (n * p) ≡ bit
  below : left % (n * p) ≡ rest * n + quotient

split : (p n b upper lower quotient left remainder : ℕ) → 0 < p → lower < 2 * p → quotient < n → left ≡ lower * n + quotient → Step p n b upper lower quotient left remainder
split p n b upper lower quotient left remainder some low fits is =
    let bit : ℕ = lower / p in
    let rest : ℕ = lower % p in
    let whole : lower ≡ bit * p + rest = sym (div-add-mod' lower p) in
    let few : rest < p = mod_below lower p some in
    let one : bit < 2 = div_below lower p 2 some low in
    let inner : rest * n + quotient < n * p = mul-add-lt rest n quotient p few fits in
    let left_ : left ≡ bit * (n * p) + (rest * n + quotient) =
    is ∙ (ap (λ l. l * n + quotient) whole ∙ (let d = add-mul (bit * p) rest n in let a = mul_assoc bit p n in let c = ap (λ m. bit * m) (mul_comm p n) in omega (arith, d, a, c))) in
    record {
      rest = rest;
      bit = bit;
      rest_fits = few;
      bit_fits = one;
      lower_is = whole;
      top = ap (λ l. l / (n * p)) left_ ∙ div-mul-add bit (n * p) (rest * n + quotient) inner;
      below = ap (λ l. l % (n * p)) left_ ∙ mod-mul-add bit (n * p) (rest * n + quotient) inner;
    }

-- ---- the subtraction

record Goes (b t whole : ℕ) (less : Bool) (r : ℕ) : Type 0 where
  borrow : nat_le whole ((t + (2 * whole - b)) % (2 * whole)) ≡ less
  rest : (if less then t % whole else (t + (2 * whole - b)) % (2 * whole) % whole) ≡ r

goes_under : (b t whole : ℕ) → b < whole → b ≤ t → t - b < whole → Goes b t whole false (t - b)
goes_under b t whole fits under small =
    let sum : t + (2 * whole - b) ≡ 1 * (2 * whole) + (t - b) = omega (arith, fits, under) in
    let is : (t + (2 * whole - b)) % (2 * whole) ≡ t - b = ap (λ k. k % (2 * whole)) sum ∙ mod-mul-add 1 (2 * whole) (t - b) (omega (arith, small)) in
    record { borrow = ap (nat_le whole) is ∙ lt-leb whole (t - b) small; rest = ap (λ k. k % whole) is ∙ mod-eq_of_lt small }

goes_over : (b t whole : ℕ) → b < whole → t < b → Goes b t whole true t
goes_over b t whole fits over =
    let is : (t + (2 * whole - b)) % (2 * whole) ≡ t + (2 * whole - b) = mod-eq_of_lt (omega (arith, fits, over)) in
    record { borrow = ap (nat_le whole) is ∙ le-leb whole (t + (2 * whole - b)) (omega (arith, fits, over)); rest = mod-eq_of_lt (omega (arith, fits, over)) }

-- ---- one step

record Powers (bits n : ℕ) : Type 0 where
  before : 2 ^ (bits - n) ≡ 2 * 2 ^ (bits - (n + 1))
  next : 2 ^ (n + 1) ≡ 2 * 2 ^ n
  top : 2 ^ (bits - 1) ≡ 2 ^ n * 2 ^ (bits - (n + 1))
  whole : 2 ^ bits ≡ 2 * 2 ^ (bits - 1)
  double : 2 ^ (bits + 1) ≡ 2 * 2 ^ bits

doubled : (n : ℕ) → 2 ^ (n + 1) ≡ 2 * 2 ^ n
doubled n = pow-add 2 n 1 ∙ mul_comm (2 ^ n) 2

powers : (bits n : ℕ) → n < bits → Powers bits n
powers bits n small =
    let one : bits - n ≡ bits - (n + 1) + 1 = omega (arith, small) in
    let sum : bits - 1 ≡ n + (bits - (n + 1)) = omega (arith, small) in
    let all : bits ≡ bits - 1 + 1 = omega (arith, small) in
    record {
      before = ap (λ k. 2 ^ k) one ∙ doubled (bits - (n + 1));
      next = doubled n;
      top = ap (λ k. 2 ^ k) sum ∙ pow-add 2 n (bits - (n + 1));
      whole = ap (λ k. 2 ^ k) all ∙ doubled (bits - 1);
      double = doubled bits;
    }

-- the next bit, where the subtraction goes so
stepped : (bits n a b left remainder : ℕ) (less : Bool) (r : ℕ) → n < bits → b < 2 ^ bits → (d : IsDivided bits n a b left remainder)
    → Goes b (remainder * 2 + left / 2 ^ (bits - 1)) (2 ^ bits) less r → IsDivided bits (n + 1) a b (left % 2 ^ (bits - 1) * 2 + bit (not less)) r
    → IsDivided bits (n + 1) a b (next_left bits b left remainder) (next_remainder bits b left remainder)
stepped bits n a b left remainder less r small fits d g made =
    let t : ℕ = trial bits left remainder in
    let w = powers bits n small in
    let same : difference bits b left remainder ≡ (t + (2 * 2 ^ bits - b)) % (2 * 2 ^ bits) = ap (λ k. (t + (k - b)) % k) w.double in
    let is_less : borrows bits b left remainder ≡ less = ap (nat_le (2 ^ bits)) same ∙ g.borrow in
    let is_left : left % 2 ^ (bits - 1) * 2 + bit (not less) ≡ next_left bits b left remainder = ap (λ k. left % 2 ^ (bits - 1) * 2 + bit (not k)) (sym is_less) in
    let is_rest : r ≡ next_remainder bits b left remainder =
    sym (ap₂ (λ l k. if l then t % 2 ^ bits else k % 2 ^ bits) is_less same ∙ g.rest) in
    subst (λ k. IsDivided bits (n + 1) a b (next_left bits b left remainder) k) is_rest (subst (λ k. IsDivided bits (n + 1) a b k r) is_left made)

pub steps_divide : StepsDivide
steps_divide bits n a b left remainder small fits d =
    let p : ℕ = 2 ^ (bits - (n + 1)) in
    let m : ℕ = 2 ^ n in
    let w = powers bits n small in
    let q : ℕ = d.quotient in
    let s = split p m b d.upper d.lower q left remainder (pow_pos (bits - (n + 1))) (subst (λ k. d.lower < k) w.before d.lower_fits) d.quotient_fits d.left_is in
    let t : ℕ = trial bits left remainder in
    let t_is : t ≡ remainder * 2 + s.bit = ap (λ k. remainder * 2 + left / k) w.top ∙ ap (λ k. remainder * 2 + k) s.top in
    let low : left % 2 ^ (bits - 1) ≡ s.rest * m + q = ap (λ k. left % k) w.top ∙ s.below in
    let upper_ : ℕ = 2 * d.upper + s.bit in
    let above : upper_ < 2 ^ (n + 1) = let f = d.upper_fits in let e = w.next in let o = s.bit_fits in omega (arith, f, e, o) in
    let parts_ : a ≡ upper_ * p + s.rest =
    d.parts ∙ (ap₂ (λ k l. d.upper * k + l) w.before s.lower_is
    ∙ (let x = add-mul (2 * d.upper) s.bit p in let y = mul_left_comm d.upper 2 p in let z = mul_assoc 2 d.upper p in omega (arith, x, y, z))) in
    let left_at : (e : ℕ) → left % 2 ^ (bits - 1) * 2 + e ≡ s.rest * 2 ^ (n + 1) + (2 * q + e) = λ (e : ℕ).
    ap (λ k. k * 2 + e) low ∙ (let x = ap (λ k. s.rest * k) w.next in let y = mul_left_comm s.rest 2 m in omega (arith, x, y)) in
    let sum : upper_ ≡ 2 * (q * b) + t = let h = d.divided in omega (arith, h, t_is) in
    let few : 2 ^ (n + 1) ≤ 2 ^ bits =
    let k : bits ≡ n + 1 + (bits - (n + 1)) = omega (arith, small) in
    let e : 2 ^ bits ≡ 2 ^ (n + 1) * p = ap (λ j. 2 ^ j) k ∙ pow-add 2 (n + 1) (bits - (n + 1)) in
    let l = le-mul_of_pos_right (2 ^ (n + 1)) (pow_pos (bits - (n + 1))) in
    omega (arith, e, l) in
    elim (cases_lt t b) [
      | inl over ↦
          stepped bits n a b left remainder true t small fits d (goes_over b t (2 ^ bits) fits over) (record {
            upper = upper_;
            lower = s.rest;
            quotient = 2 * q;
            parts = parts_;
            upper_fits = above;
            lower_fits = s.rest_fits;
            divided = let x = mul_assoc 2 q b in omega (arith, sum, x);
            quotient_fits = let f = d.quotient_fits in let e = w.next in omega (arith, f, e);
            proper = λ some. over;
            by_zero = λ none. absurd (omega (arith, none, over));
            left_is = left_at 0 ∙ ap (λ k. s.rest * 2 ^ (n + 1) + k) (let e : 2 * q + 0 ≡ 2 * q = omega arith in e);
          })
      | inr under ↦
          let within : t - b < 2 ^ bits =
          elim (cases_eq b 0) [
            | inl none ↦
                let z : q * b ≡ 0 = ap (λ k. q * k) none ∙ mul-zero q in
                omega (arith, z, sum, above, few)
            | inr other ↦ let f = d.proper (omega (arith, other)) in let o = s.bit_fits in omega (arith, f, t_is, o, fits)
          ] in
          stepped bits n a b left remainder false (t - b) small fits d (goes_under b t (2 ^ bits) fits under within) (record {
            upper = upper_;
            lower = s.rest;
            quotient = 2 * q + 1;
            parts = parts_;
            upper_fits = above;
            lower_fits = s.rest_fits;
            divided = let x = add-mul (2 * q) 1 b in let y = mul_assoc 2 q b in omega (arith, sum, x, y, under);
            quotient_fits = let f = d.quotient_fits in let e = w.next in omega (arith, f, e);
            proper = λ some. let f = d.proper some in let o = s.bit_fits in omega (arith, f, t_is, o, under);
            by_zero = λ none. let f = d.by_zero none in let e = w.next in omega (arith, f, e);
            left_is = left_at 1;
          })
    ]

-- ---- the first step and the last

pub begins : (bits a b : ℕ) → a < 2 ^ bits → IsDivided bits 0 a b a 0
begins bits a b fits = record {
  upper = 0;
  lower = a;
  quotient = 0;
  parts = let z = zero-mul (2 ^ (bits - 0)) in omega (arith, z);
  upper_fits = omega arith;
  lower_fits = subst (λ k. a < 2 ^ k) (let e : bits ≡ bits - 0 = omega arith in e) fits;
  divided = let z = zero-mul b in omega (arith, z);
  quotient_fits = omega arith;
  proper = λ some. some;
  by_zero = λ none. omega arith;
  left_is = omega arith;
}

pub record Ends (bits a b left remainder : ℕ) : Type 0 where
  pub divided : a ≡ left * b + remainder
  pub fits : left < 2 ^ bits
  pub proper : 0 < b → remainder < b
  pub by_zero : b ≡ 0 → left + 1 ≡ 2 ^ bits

pub ends : (bits a b left remainder : ℕ) → IsDivided bits bits a b left remainder → Ends bits a b left remainder
ends bits a b left remainder d =
    let none : bits - bits ≡ 0 = omega arith in
    let one : 2 ^ (bits - bits) ≡ 1 = ap (λ k. 2 ^ k) none in
    let low : d.lower ≡ 0 = let f = d.lower_fits in omega (arith, f, one) in
    let left_ : left ≡ d.quotient = d.left_is ∙ (let z = ap (λ k. k * 2 ^ bits) low in let y = zero-mul (2 ^ bits) in omega (arith, z, y)) in
    let whole : a ≡ d.upper = d.parts ∙ (let z = ap (λ k. d.upper * k) one in omega (arith, z, low)) in
    record {
      divided = whole ∙ (d.divided ∙ ap (λ k. k * b + remainder) (sym left_));
      fits = subst (λ k. k < 2 ^ bits) (sym left_) d.quotient_fits;
      proper = d.proper;
      by_zero = λ none_. ap (λ k. k + 1) left_ ∙ d.by_zero none_;
    }
