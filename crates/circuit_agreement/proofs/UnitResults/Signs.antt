-- What a division of absolute values says of the division of numbers with signs.
use Rattle.std.proofs.Common.{◌≡◌, ℕ, zero, suc, ◌+◌, ◌-◌, ◌*◌, ◌/◌, ◌%◌, ◌^◌, ◌<◌, ◌≤◌, Bool, true, false, ◌&&◌, ℤ, pos, ◌-ℤ◌, neg_ℤ, refl, sym, ap, ap₂, ◌∙◌, subst, inl, inr, true≢false, mod-eq_of_lt, pow_pos, pow-add, arith}
use Rattle.std.specs.Prelude.{nat_le, if◌then◌else◌, unsigned_abs, int_lt, int_div, int_rem}
use Rattle.std.specs.Int.{int_rem_euclid}
use Rattle.std.specs.Ordering.{int_eq}
use Rattle.std.proofs.lemmas.Int.{ints}
use Rattle.std.proofs.lemmas.Bool.{cases_Bool, cases_lt, cases_eq, cond-true, cond-false, le-leb, lt-leb, lt-ltb, and_parts}
use Rattle.std.proofs.lemmas.Nat.{div-mul-add, mod-mul-add}
use Rattle.std.proofs.Math.Nat.{mul_comm, mul-zero}
use Rattle.ir_core.specs.Value as v
use Rattle.ir_core.specs.Value.{count_of, half_of, number_of, pattern}
use Rattle.datapath.specs.Units.{negated_if, top_bit}
use Rattle.circuit_agreement.specs.UnitResults.Divisions.{is_negative, absolute, differ}
use Rattle.circuit_agreement.proofs.UnitResults.Dividing.{Ends}

-- ---- signs

-- a number by its sign and its absolute value
abbrev pub with_sign : Bool → ℕ → ℤ
with_sign true a = neg_ℤ (pos a)
with_sign false a = pos a

pub count_is : (bits : ℕ) → bits ≤ 64 → count_of bits ≡ 2 ^ bits
count_is bits few =
    elim (cases_lt bits 64) [
      | inl less ↦ cond-true _ _ _ (lt-ltb bits 64 less)
      | inr most ↦ let e : 64 ≡ bits = omega (arith, few, most) in subst (λ k. count_of k ≡ 2 ^ k) e refl
    ]

half_is : (bits : ℕ) → bits ≤ 64 → half_of bits ≡ 2 ^ (bits - 1)
half_is bits few =
    elim (cases_lt bits 64) [
      | inl less ↦ cond-true _ _ _ (lt-ltb bits 64 less)
      | inr most ↦ let e : 64 ≡ bits = omega (arith, few, most) in subst (λ k. half_of k ≡ 2 ^ (k - 1)) e refl
    ]

halves : (bits : ℕ) → 2 ^ bits ≤ 2 * 2 ^ (bits - 1)
halves bits =
    elim (cases_eq bits 0) [
      | inl none ↦ let e : 2 ^ bits ≡ 1 = ap (λ k. 2 ^ k) none in let o = pow_pos (bits - 1) in omega (arith, e, o)
      | inr some ↦
          let all : bits ≡ bits - 1 + 1 = omega (arith, some) in
          let e : 2 ^ bits ≡ 2 * 2 ^ (bits - 1) = ap (λ k. 2 ^ k) all ∙ (pow-add 2 (bits - 1) 1 ∙ mul_comm (2 ^ (bits - 1)) 2) in
          omega (arith, e)
    ]

top_is : (bits x : ℕ) → x < 2 ^ bits → top_bit bits x ≡ nat_le (2 ^ (bits - 1)) x
top_is bits x fits =
    let h : ℕ = 2 ^ (bits - 1) in
    elim (cases_lt x h) [
      | inl low ↦
          let none : x / h ≡ 0 = let e : x ≡ 0 * h + x = omega arith in ap (λ k. k / h) e ∙ div-mul-add 0 h x low in
          ap (λ k. nat_le 1 (k % 2)) none ∙ sym (lt-leb h x low)
      | inr high ↦
          let few = halves bits in
          let one : x / h ≡ 1 = let e : x ≡ 1 * h + (x - h) = omega (arith, high) in ap (λ k. k / h) e ∙ div-mul-add 1 h (x - h) (omega (arith, few, fits, high)) in
          ap (λ k. nat_le 1 (k % 2)) one ∙ sym (le-leb h x high)
    ]

pub record Signed (signed : Bool) (bits x : ℕ) : Type 0 where
  pub is : number_of signed bits x ≡ with_sign (is_negative signed bits x) (absolute signed bits x)
  pub fits : absolute signed bits x < 2 ^ bits
  pub some : is_negative signed bits x ≡ true → 0 < absolute signed bits x

below : (m x : ℕ) → x < m → pos x -ℤ pos m ≡ neg_ℤ (pos (m - x))
below m x fits = omega (arith, ints, fits)

pub signed_as : (signed : Bool) (bits x : ℕ) → bits ≤ 64 → x < 2 ^ bits → Signed signed bits x
signed_as signed bits x few fits =
    let n : Bool = is_negative signed bits x in
    let m : ℕ = 2 ^ bits in
    let same : (signed && nat_le (half_of bits) x) ≡ n = ap (λ k. signed && k) (ap (λ h. nat_le h x) (half_is bits few) ∙ sym (top_is bits x fits)) in
    let number : number_of signed bits x ≡ (if n then pos x -ℤ pos m else pos x) = ap₂ (λ b k. if b then pos x -ℤ pos k else pos x) same (count_is bits few) in
    elim (cases_Bool n) [
      | inl yes_ ↦
          let top : top_bit bits x ≡ true = (and_parts signed (top_bit bits x) yes_).1 in
          let high : 2 ^ (bits - 1) ≤ x =
          elim (cases_lt x (2 ^ (bits - 1))) [
            | inl low ↦ absurd (true≢false (sym top ∙ (top_is bits x fits ∙ lt-leb (2 ^ (bits - 1)) x low)))
            | inr h ↦ h
          ] in
          let some : 0 < x = let o = pow_pos (bits - 1) in omega (arith, o, high) in
          let abs_ : absolute signed bits x ≡ m - x = cond-true _ _ _ yes_ ∙ mod-eq_of_lt (omega (arith, some, fits)) in
          record {
            is = number ∙ (cond-true _ _ _ yes_ ∙ (below m x fits ∙ sym (ap₂ with_sign yes_ abs_)));
            fits = subst (λ k. k < m) (sym abs_) (omega (arith, some, fits));
            some = λ e. subst (λ k. 0 < k) (sym abs_) (omega (arith, fits));
          }
      | inr no_ ↦
          let abs_ : absolute signed bits x ≡ x = cond-false _ _ _ no_ in
          record {
            is = number ∙ (cond-false _ _ _ no_ ∙ sym (ap₂ with_sign no_ abs_));
            fits = subst (λ k. k < m) (sym abs_) fits;
            some = λ e. absurd (true≢false (sym e ∙ no_));
          }
    ]

-- ---- patterns

abbrev residue : ℕ → ℤ → ℕ
residue m n = unsigned_abs (int_rem_euclid n (pos m))

residue_up : (m q : ℕ) → q < m → residue m (pos q) ≡ q
residue_up m q fits = mod-eq_of_lt fits

residue_down : (m q : ℕ) → q < m → residue m (neg_ℤ (pos q)) ≡ (m - q) % m
residue_down m zero fits =
    let e : m - 0 ≡ 1 * m + 0 = omega arith in
    mod-eq_of_lt fits ∙ sym (ap (λ k. k % m) e ∙ mod-mul-add 1 m 0 fits)
residue_down m (suc q) fits =
    let small : q % m ≡ q = mod-eq_of_lt (omega (arith, fits)) in
    let less : m - suc q < m = omega (arith, fits) in
    let e : m - 1 - q ≡ m - suc q = omega (arith, fits) in
    ap (λ k. m - 1 - k) small ∙ (e ∙ sym (mod-eq_of_lt less))

-- the pattern of a number by its sign and its absolute value
pub pattern_is : (bits : ℕ) (negative : Bool) (q : ℕ) → bits ≤ 64 → q < 2 ^ bits → pattern bits (with_sign negative q) ≡ negated_if negative bits q
pattern_is bits true q few fits = ap (λ k. residue k (neg_ℤ (pos q))) (count_is bits few) ∙ residue_down (2 ^ bits) q fits
pattern_is bits false q few fits = ap (λ k. residue k (pos q)) (count_is bits few) ∙ residue_up (2 ^ bits) q fits

-- ---- quotients

divided : (left right : Bool) (a b : ℕ) → (left ≡ true → 0 < a) → (right ≡ true → 0 < b) → int_div (with_sign left a) (with_sign right b) ≡ with_sign (differ left right) (a / b)
divided true true zero b some other = absurd (let h = some refl in omega (arith, h))
divided true true (suc a) zero some other = absurd (let h = other refl in omega (arith, h))
divided true true (suc a) (suc b) some other = refl
divided true false zero b some other = absurd (let h = some refl in omega (arith, h))
divided true false (suc a) b some other = refl
divided false true a zero some other = absurd (let h = other refl in omega (arith, h))
divided false true a (suc b) some other = refl
divided false false a b some other = refl

size_of : (negative : Bool) (b : ℕ) → unsigned_abs (with_sign negative b) ≡ b
size_of true zero = refl
size_of true (suc b) = refl
size_of false b = refl

left_over : (left : Bool) (a : ℕ) (d : ℤ) → (left ≡ true → 0 < a) → int_rem (with_sign left a) d ≡ with_sign left (a % unsigned_abs d)
left_over true zero d some = absurd (let h = some refl in omega (arith, h))
left_over true (suc a) d some = refl
left_over false a d some = refl

is_zero : (negative : Bool) (b : ℕ) → b ≡ 0 → int_eq (with_sign negative b) (pos 0) ≡ true
is_zero true b e = ap (λ k. int_eq (neg_ℤ (pos k)) (pos 0)) e
is_zero false b e = ap (λ k. int_eq (pos k) (pos 0)) e

not_zero : (negative : Bool) (b : ℕ) → 0 < b → int_eq (with_sign negative b) (pos 0) ≡ false
not_zero true zero some = absurd (omega (arith, some))
not_zero true (suc b) some = refl
not_zero false b some = grind (arith, ints)

below_zero : (left : Bool) (a : ℕ) → (left ≡ true → 0 < a) → int_lt (with_sign left a) (pos 0) ≡ left
below_zero true zero some = absurd (let h = some refl in omega (arith, h))
below_zero true (suc a) some = refl
below_zero false a some = grind (arith, ints)

-- divided by 0 a number gives all ones, with its sign
by_none : (bits q : ℕ) (left : Bool) → bits ≤ 64 → q + 1 ≡ 2 ^ bits → negated_if left bits q ≡ (if left then pattern bits (pos 1) else pattern bits (neg_ℤ (pos 1)))
by_none bits q true few all =
    let e : 2 ^ bits - q ≡ 1 = omega (arith, all) in
    ap (λ k. k % 2 ^ bits) e ∙ sym (ap (λ k. 1 % k) (count_is bits few))
by_none bits q false few all =
    let m : ℕ = 2 ^ bits in
    let z : 0 % m ≡ 0 = mod-eq_of_lt (pow_pos bits) in
    let e : m - 1 - 0 % m ≡ q = omega (arith, all, z) in
    sym (ap (λ k. k - 1 - 0 % k) (count_is bits few) ∙ e)

pub quotient_is : (bits a b q r : ℕ) (left right : Bool) → bits ≤ 64 → (left ≡ true → 0 < a) → (right ≡ true → 0 < b) → Ends bits a b q r
    → negated_if (differ left right) bits q ≡ v.quotient bits (with_sign left a) (with_sign right b)
quotient_is bits a b q r left right few some other e =
    elim (cases_eq b 0) [
      | inl none ↦
          let up : right ≡ false =
          elim (cases_Bool right) [
            | inl yes_ ↦ absurd (let h = other yes_ in omega (arith, h, none))
            | inr no_ ↦ no_
          ] in
          let same : differ left right ≡ left = ap (differ left) up ∙ differ_none left in
          ap (λ k. negated_if k bits q) same
          ∙ (by_none bits q left few (e.by_zero none)
          ∙ sym (cond-true _ _ _ (is_zero right b none) ∙ ap (λ k. if k then pattern bits (pos 1) else pattern bits (neg_ℤ (pos 1))) (below_zero left a some)))
      | inr more ↦
          let positive : 0 < b = omega (arith, more) in
          let whole : a / b ≡ q = ap (λ k. k / b) e.divided ∙ div-mul-add q b r (e.proper positive) in
          sym
          (cond-false _ _ _ (not_zero right b positive)
          ∙ (ap (pattern bits) (divided left right a b some other ∙ ap (with_sign (differ left right)) whole)
          ∙ pattern_is bits (differ left right) q few e.fits))
    ]
  where
    differ_none : (left : Bool) → differ left false ≡ left
    differ_none true = refl
    differ_none false = refl

pub remainder_is : (bits a b q r : ℕ) (left right : Bool) → bits ≤ 64 → a < 2 ^ bits → (left ≡ true → 0 < a) → (right ≡ true → 0 < b) → Ends bits a b q r
    → negated_if left bits r ≡ v.remainder bits (with_sign left a) (with_sign right b)
remainder_is bits a b q r left right few fits some other e =
    elim (cases_eq b 0) [
      | inl none ↦
          let z : q * b ≡ 0 = ap (λ k. q * k) none ∙ mul-zero q in
          let d = e.divided in
          let same : r ≡ a = omega (arith, d, z) in
          ap (negated_if left bits) same ∙ sym (cond-true _ _ _ (is_zero right b none) ∙ pattern_is bits left a few fits)
      | inr more ↦
          let positive : 0 < b = omega (arith, more) in
          let rest : a % b ≡ r = ap (λ k. k % b) e.divided ∙ mod-mul-add q b r (e.proper positive) in
          let d = e.divided in
          let small : r < 2 ^ bits = omega (arith, d, fits) in
          sym
          (cond-false _ _ _ (not_zero right b positive)
          ∙ (ap (pattern bits) (left_over left a (with_sign right b) some ∙ ap (with_sign left) (ap (λ k. a % k) (size_of right b) ∙ rest))
          ∙ pattern_is bits left r few small))
    ]
