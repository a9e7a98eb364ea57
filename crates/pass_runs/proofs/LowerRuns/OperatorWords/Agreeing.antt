-- Each operator that computes: its operation gives the word of its number, and is defined.
use Rattle.std.proofs.Common.{◌≡◌, ◌∙◌, ◌<◌, ◌≤◌, ℕ, ◌-◌, ◌*◌, ◌^◌, Bool, true, false, not, ◌&&◌, refl, ap, ap₂, sym, subst, ℤ, pos, ◌+ℤ◌, ◌-ℤ◌, ◌*ℤ◌, neg_ℤ, [], ◌∷◌, arith, if◌then◌else◌}
use Rattle.std.specs.Prelude.{int_lt, int_div, int_rem, nat_lt, bit_and, bit_or, bit_xor, ◌%◌}
use Rattle.std.specs.Int.{int_shr}
use Rattle.std.specs.Ordering.{int_eq}
use Rattle.std.proofs.lemmas.Int.{ints}
use Rattle.std.proofs.lemmas.Bool.{false≢true, ltb-true}
use Rattle.std.proofs.lemmas.Nat.{pow_pos, and_le_l, or_lt, xor_lt}
use Rattle.c_token.specs.declared.ctype.CType.{CType}
use Rattle.c_token.specs.declared.ctype.CType.TheVariants as type
use Rattle.c_value.specs.Values.{IsOf, bits_of, integer, width, is_signed, pattern, number_of, convert}
use Rattle.c_value.specs.Operators as c
use Rattle.ir_core.specs.declared.body.OpKind.TheVariants as o
use Rattle.ir_core.specs.Value as op
use Rattle.pass_runs.specs.LowerRuns.OperatorWords.Words.{IsWord, Agrees, count_type}
use Rattle.pass_runs.proofs.LowerRuns.OperatorWords.Remainders.{Congruent, remainder_only, remainder_small, same_remainder}
use Rattle.pass_runs.proofs.LowerRuns.OperatorWords.Products.{products_congruent}
use Rattle.pass_runs.proofs.LowerRuns.OperatorWords.Conversions.{naturals_are_words, own_number}
use Rattle.pass_runs.proofs.LowerRuns.OperatorWords.Resizing.{bits_case, count_is, pattern_is}
use Rattle.pass_runs.proofs.LowerRuns.OperatorWords.Ranges.{both_hold, of_type, of_type_is, range_is, remainder_in, shifted_in}
use Rattle.pass_runs.proofs.LowerRuns.OperatorWords.Results.{word_of, given_word, same_number, Ranged, ranged, Divided, divided, shifted, shifted_left}
use Rattle.pass_runs.proofs.LowerRuns.OperatorWords.Operators.{word_below, word_means, word_congruent, word_sum, word_difference}

-- ---- sums and differences

pub sum_agrees : (k : CType) (x y v : ℤ) (wx wy : ℕ) → IsWord k x wx → IsWord k y wy → c.in_range k (x +ℤ y) ≡ c.defined v → Agrees o.Add k v (wx ∷ wy ∷ [])
sum_agrees k x y v wx wy h g e =
    let r = ranged k (x +ℤ y) v e in
    let word = subst (λ w. IsWord k v w) (sym (word_sum k x y wx wy h g)) r.word in
    let within : op.is_defined o.Add (is_signed k) (width k) (wx ∷ wy ∷ []) ≡ true =
    ap₂ (λ a b. op.in_range (is_signed k) (width k) (a +ℤ b)) (word_means k x wx h) (word_means k y wy g) ∙ r.within in (λ t. word, λ t. (word, within))

pub difference_agrees : (k : CType) (x y v : ℤ) (wx wy : ℕ) → IsWord k x wx → IsWord k y wy → c.in_range k (x -ℤ y) ≡ c.defined v → Agrees o.Sub k v (wx ∷ wy ∷ [])
difference_agrees k x y v wx wy h g e =
    let r = ranged k (x -ℤ y) v e in
    let word = subst (λ w. IsWord k v w) (sym (word_difference k x y wx wy h g)) r.word in
    let within : op.is_defined o.Sub (is_signed k) (width k) (wx ∷ wy ∷ []) ≡ true =
    ap₂ (λ a b. op.in_range (is_signed k) (width k) (a -ℤ b)) (word_means k x wx h) (word_means k y wy g) ∙ r.within in (λ t. word, λ t. (word, within))

-- ---- products

product_word : (k : CType) (x y : ℤ) (a b : ℕ) → Congruent (2 ^ width k) x (pos a) → Congruent (2 ^ width k) y (pos b) → op.product (width k) a b ≡ pattern k (x *ℤ y)
product_word k x y a b h g =
    ap (λ m. a * b % m) (count_is k) ∙ sym (same_remainder (2 ^ width k) (x *ℤ y) (pos (a * b)) (pow_pos (width k)) (products_congruent (2 ^ width k) x y a b h g))

all_hold : (a b c : Bool) → a ≡ true → b ≡ true → c ≡ true → (a && b && c) ≡ true
all_hold a b c e f g = rw (e, f, g) refl

product_within : (k : CType) (x y v : ℤ) → IsOf k x → IsOf k y → Ranged k (x *ℤ y) v → op.is_defined_at o.Mul (is_signed k) (width k) x y 0 ≡ true
product_within type.Bool x y v h g r = refl
product_within (type.Int false bits) x y v h g r = refl
product_within (type.Int true bits) x y v h g r =
    let k = type.Int true bits in
    all_hold (op.is_of true (width k) x) (op.is_of true (width k) y) (op.is_of true (width k) (x *ℤ y)) (range_is k x ∙ of_type_is k x h) (range_is k y ∙ of_type_is k y g) r.within

pub product_agrees : (k : CType) (x y v : ℤ) (wx wy : ℕ) → IsWord k x wx → IsWord k y wy → c.in_range k (x *ℤ y) ≡ c.defined v → Agrees o.Mul k v (wx ∷ wy ∷ [])
product_agrees k x y v wx wy h g e =
    let r = ranged k (x *ℤ y) v e in
    let word = subst (λ w. IsWord k v w) (sym (product_word k x y wx wy (word_congruent k x wx h) (word_congruent k y wy g))) r.word in
    let within : op.is_defined o.Mul (is_signed k) (width k) (wx ∷ wy ∷ []) ≡ true =
    ap₂ (λ a b. op.is_defined_at o.Mul (is_signed k) (width k) a b 0) (word_means k x wx h) (word_means k y wy g) ∙ product_within k x y v h.number g.number r in (λ t. word, λ t. (word, within))

-- ---- quotients and remainders

quotient_within : (k : CType) (x y v : ℤ) (wx wy : ℕ) (f : ℤ → ℤ → ℤ) → IsWord k x wx → IsWord k y wy → Divided f k x y v
    → op.is_quotient (is_signed k) (width k) (op.number_of (is_signed k) (width k) wx) (op.number_of (is_signed k) (width k) wy) ≡ true
quotient_within k x y v wx wy f h g d =
    ap₂ (λ a b. op.is_quotient (is_signed k) (width k) a b) (word_means k x wx h) (word_means k y wy g)
    ∙ both_hold (not (int_eq y (pos 0))) (op.is_of (is_signed k) (width k) (int_div x y)) (ap not d.nonzero) (range_is k (int_div x y) ∙ d.within)

quotient_word : (k : CType) (x y : ℤ) → int_eq y (pos 0) ≡ false → op.quotient (width k) x y ≡ pattern k (int_div x y)
quotient_word k x y z =
    ap (λ b. if b then (if int_lt x (pos 0) then op.pattern (width k) (pos 1) else op.pattern (width k) (neg_ℤ (pos 1))) else op.pattern (width k) (int_div x y)) z ∙ pattern_is k (int_div x y)

remainder_word : (k : CType) (x y : ℤ) → int_eq y (pos 0) ≡ false → op.remainder (width k) x y ≡ pattern k (int_rem x y)
remainder_word k x y z = ap (λ b. if b then op.pattern (width k) x else op.pattern (width k) (int_rem x y)) z ∙ pattern_is k (int_rem x y)

pub quotient_agrees : (k : CType) (x y v : ℤ) (wx wy : ℕ) → IsWord k x wx → IsWord k y wy → c.divided int_div k x y ≡ c.defined v → Agrees o.Div k v (wx ∷ wy ∷ [])
quotient_agrees k x y v wx wy h g e =
    let d = divided int_div k x y v e in
    let same = ap₂ (λ a b. op.quotient (width k) a b) (word_means k x wx h) (word_means k y wy g) ∙ quotient_word k x y d.nonzero in
    let word = subst (λ w. IsWord k v w) (sym same) (given_word k (int_div x y) v (of_type k (int_div x y) d.within) d.value) in (λ t. absurd (false≢true t), λ t. (word, quotient_within k x y v wx wy int_div h g d))

pub remainder_agrees : (k : CType) (x y v : ℤ) (wx wy : ℕ) → IsWord k x wx → IsWord k y wy → c.divided int_rem k x y ≡ c.defined v → Agrees o.Rem k v (wx ∷ wy ∷ [])
remainder_agrees k x y v wx wy h g e =
    let d = divided int_rem k x y v e in
    let same = ap₂ (λ a b. op.remainder (width k) a b) (word_means k x wx h) (word_means k y wy g) ∙ remainder_word k x y d.nonzero in
    let word = subst (λ w. IsWord k v w) (sym same) (given_word k (int_rem x y) v (remainder_in k x y h.number) d.value) in (λ t. absurd (false≢true t), λ t. (word, quotient_within k x y v wx wy int_rem h g d))

-- ---- bits

bitwise_word : (f : ℕ → ℕ → ℕ) (k : CType) (x y v : ℤ) (wx wy : ℕ) → IsWord k x wx → IsWord k y wy → f wx wy < 2 ^ width k → c.defined (c.bitwise f k x y) ≡ c.defined v → IsWord k v (op.pattern (width k) (pos (f wx wy)))
bitwise_word f k x y v wx wy h g below e =
    let is_v : number_of k (f wx wy) ≡ v = ap₂ (λ a b. number_of k (f a b)) h.word g.word ∙ same_number (c.bitwise f k x y) v e in
    let kept = pattern_is k (pos (f wx wy)) ∙ remainder_small (f wx wy) (2 ^ width k) below in
    subst (λ w. IsWord k v w) (sym kept) (subst (λ u. IsWord k u (f wx wy)) is_v (word_of k (f wx wy) below))

pub and_agrees : (k : CType) (x y v : ℤ) (wx wy : ℕ) → IsWord k x wx → IsWord k y wy → c.defined (c.bitwise bit_and k x y) ≡ c.defined v → Agrees o.And k v (wx ∷ wy ∷ [])
and_agrees k x y v wx wy h g e =
    let le = and_le_l wx wy in
    let lt = word_below k x wx h in
    let below : bit_and wx wy < 2 ^ width k = omega (arith, le, lt) in
    let word = bitwise_word bit_and k x y v wx wy h g below e in (λ t. word, λ t. absurd (false≢true (sym t)))

pub or_agrees : (k : CType) (x y v : ℤ) (wx wy : ℕ) → IsWord k x wx → IsWord k y wy → c.defined (c.bitwise bit_or k x y) ≡ c.defined v → Agrees o.Or k v (wx ∷ wy ∷ [])
or_agrees k x y v wx wy h g e = let word = bitwise_word bit_or k x y v wx wy h g (or_lt (width k) wx wy (word_below k x wx h) (word_below k y wy g)) e in (λ t. word, λ t. absurd (false≢true (sym t)))

pub xor_agrees : (k : CType) (x y v : ℤ) (wx wy : ℕ) → IsWord k x wx → IsWord k y wy → c.defined (c.bitwise bit_xor k x y) ≡ c.defined v → Agrees o.Xor k v (wx ∷ wy ∷ [])
xor_agrees k x y v wx wy h g e = let word = bitwise_word bit_xor k x y v wx wy h g (xor_lt (width k) wx wy (word_below k x wx h) (word_below k y wy g)) e in (λ t. word, λ t. absurd (false≢true (sym t)))

-- each bit of the complement is the other one, as in the greatest word less this one
others_congruent : (m w : ℕ) → w < m → Congruent m (neg_ℤ (pos 1) -ℤ pos w) (pos (m - 1 - w))
others_congruent m w h = record { before = 1; behind = 0; same = omega (arith, ints, h) }

others_word : (k : CType) (w : ℕ) → w < 2 ^ width k → op.pattern (width k) (neg_ℤ (pos 1) -ℤ pos w) ≡ 2 ^ width k - 1 - w
others_word k w h =
    pattern_is k (neg_ℤ (pos 1) -ℤ pos w)
    ∙ remainder_only (2 ^ width k) (neg_ℤ (pos 1) -ℤ pos w) (2 ^ width k - 1 - w) (omega (arith, h)) (others_congruent (2 ^ width k) w h)

pub complement_agrees : (k : CType) (x : ℤ) (w : ℕ) → IsWord k x w → IsWord k (c.complement k x) (op.value o.Not false (width k) 0 (w ∷ []))
complement_agrees k x w h =
    let lt = word_below k x w h in
    let below : 2 ^ width k - 1 - w < 2 ^ width k = omega (arith, lt) in
    subst (λ u. IsWord k u (op.pattern (width k) (neg_ℤ (pos 1) -ℤ pos w))) (ap (λ p. number_of k (2 ^ width k - 1 - p)) h.word)
    (subst (λ u. IsWord k (number_of k (2 ^ width k - 1 - w)) u) (sym (others_word k w lt)) (word_of k (2 ^ width k - 1 - w) below))

-- ---- negation

negations_congruent : (m : ℕ) (x : ℤ) (w : ℕ) → Congruent m x (pos w) → Congruent m (neg_ℤ x) (neg_ℤ (pos w))
negations_congruent m x w h = record { before = h.behind; behind = h.before; same = let e = h.same in omega (arith, ints, e) }

pub negation_agrees : (k : CType) (x v : ℤ) (w : ℕ) → IsWord k x w → c.in_range k (neg_ℤ x) ≡ c.defined v → Agrees o.Neg k v (w ∷ [])
negation_agrees k x v w h e =
    let r = ranged k (neg_ℤ x) v e in
    let same = pattern_is k (neg_ℤ (pos w)) ∙ sym (same_remainder (2 ^ width k) (neg_ℤ x) (neg_ℤ (pos w)) (pow_pos (width k)) (negations_congruent (2 ^ width k) x w (word_congruent k x w h))) in
    let word = subst (λ u. IsWord k v u) (sym same) r.word in
    let within : op.is_defined o.Neg (is_signed k) (width k) (w ∷ []) ≡ true = ap (λ a. op.in_range (is_signed k) (width k) (neg_ℤ a)) (word_means k x w h) ∙ r.within in (λ t. word, λ t. (word, within))

-- ---- shifts

width_is : (k : CType) → op.width (width k) ≡ width k
width_is type.Bool = refl
width_is (type.Int signed bits) = bits_case (λ n. op.width n ≡ n) refl refl refl refl bits

-- a type with as many bits has each count below them
counts_fit : (k : CType) → width k ≤ 2 ^ (bits_of (width k) - 1)
counts_fit type.Bool = omega arith
counts_fit (type.Int signed bits) = bits_case (λ n. n ≤ 2 ^ (bits_of n - 1)) (omega arith) (omega arith) (omega arith) (omega arith) bits

counts_fit_whole : (k : CType) → width k ≤ 2 ^ bits_of (width k)
counts_fit_whole type.Bool = omega arith
counts_fit_whole (type.Int signed bits) = bits_case (λ n. n ≤ 2 ^ bits_of n) (omega arith) (omega arith) (omega arith) (omega arith) bits

count_number : (k : CType) (signed : Bool) (n : ℕ) → n < width k → IsOf (integer signed (width k)) (pos n)
count_number k true n h = let le = counts_fit k in (omega (arith, ints), omega (arith, ints, h, le))
count_number k false n h = let le = counts_fit_whole k in (omega (arith, ints), omega (arith, ints, h, le))

-- the word of a count that is below the width
count_word : (k right : CType) (y : ℤ) (n wy : ℕ) → y ≡ pos n → nat_lt n (width k) ≡ true → IsWord (count_type k right) (convert (count_type k right) y) wy → wy ≡ n
count_word k right y n wy e lt h =
    let of_count = count_number k (is_signed right) n (ltb-true n (width k) lt) in
    let same : convert (count_type k right) y ≡ pos n = ap (convert (count_type k right)) e ∙ own_number (is_signed right) (width k) (pos n) of_count in
    naturals_are_words (count_type k right) n wy (subst (λ u. IsWord (count_type k right) u wy) same h)

counted : (k : CType) (n : ℕ) → nat_lt n (width k) ≡ true → nat_lt n (op.width (width k)) ≡ true
counted k n lt = ap (nat_lt n) (width_is k) ∙ lt

module _ (k right : CType) (x y v : ℤ) (wx wy : ℕ) (h : IsWord k x wx) (g : IsWord (count_type k right) (convert (count_type k right) y) wy) where
  pub left_agrees : c.shifted c.shifted_left k x y ≡ c.defined v → Agrees o.Shl k v (wx ∷ wy ∷ [])
  left_agrees e =
      let d = shifted c.shifted_left k x y v e in
      let n = d.count in
      let count_is_ = count_word k right y n wy d.count_is d.below g in
      let l = shifted_left k x n v d.value in
      let in_width = counted k n d.below in
      let power : Congruent (2 ^ width k) (pos (2 ^ n)) (pos (2 ^ n)) = record { before = 0; behind = 0; same = refl } in
      let same : op.shifted_left (width k) wx wy ≡ pattern k (x *ℤ pos (2 ^ n)) =
      ap (op.shifted_left (width k) wx) count_is_ ∙ ap (λ b. if b then op.product (width k) wx (2 ^ n) else 0) in_width ∙ product_word k x (pos (2 ^ n)) wx (2 ^ n) (word_congruent k x wx h) power in
      let word = subst (λ w. IsWord k v w) (sym same) l.word in
      let within : op.is_shift (is_signed k) (width k) (op.number_of (is_signed k) (width k) wx) wy ≡ true =
      ap₂ (λ a m. op.is_shift (is_signed k) (width k) a m) (word_means k x wx h) count_is_
      ∙ ap₂ (λ a b. a && b) in_width l.within in (λ t. absurd (false≢true t), λ t. (word, within))

  pub right_agrees : c.shifted c.shifted_right k x y ≡ c.defined v → Agrees o.Shr k v (wx ∷ wy ∷ [])
  right_agrees e =
      let d = shifted c.shifted_right k x y v e in
      let n = d.count in
      let count_is_ = count_word k right y n wy d.count_is d.below g in
      let in_width = counted k n d.below in
      let same : op.shifted_right (width k) (op.number_of (is_signed k) (width k) wx) wy ≡ pattern k (int_shr x n) =
      ap₂ (λ a m. op.shifted_right (width k) a m) (word_means k x wx h) count_is_
      ∙ ap (λ b. if b then op.pattern (width k) (int_shr x n) else (if int_lt x (pos 0) then op.pattern (width k) (neg_ℤ (pos 1)) else 0)) in_width ∙ pattern_is k (int_shr x n) in
      let word = subst (λ w. IsWord k v w) (sym same) (given_word k (int_shr x n) v (shifted_in k x n h.number) (same_number (int_shr x n) v d.value)) in
      let within : nat_lt wy (op.width (width k)) ≡ true = ap (λ m. nat_lt m (op.width (width k))) count_is_ ∙ in_width in (λ t. absurd (false≢true t), λ t. (word, within))
