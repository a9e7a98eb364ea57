-- What an operator gives where it gives a number, and the number's word.
use Rattle.std.proofs.Common.{◌≡◌, ◌∙◌, ◌<◌, ℕ, ◌^◌, Bool, true, false, not, ◌&&◌, ◌||◌, refl, ap, sym, subst, ℤ, pos, negsuc, ◌*ℤ◌, arith, if◌then◌else◌}
use Rattle.std.specs.Prelude.{int_lt, int_le, int_div, nat_lt}
use Rattle.std.specs.Ordering.{int_eq}
use Rattle.std.proofs.lemmas.Int.{ints}
use Rattle.std.proofs.lemmas.Bool.{false≢true}
use Rattle.std.proofs.lemmas.Nat.{pow_pos}
use Rattle.hls_base.specs.declared.refusal.UbRule.{UbRule}
use Rattle.hls_base.specs.declared.refusal.UbRule.TheVariants as ub
use Rattle.c_token.specs.declared.ctype.CType.{CType}
use Rattle.c_token.specs.declared.ctype.CType.TheVariants as type
use Rattle.c_value.specs.Values.{IsOf, is_of, width, is_signed, pattern, number_of, wrap, convert}
use Rattle.c_value.specs.Operators as c
use Rattle.c_value.specs.Operators.{Computed}
use Rattle.ir_core.specs.Value as op
use Rattle.pass_runs.specs.LowerRuns.OperatorWords.Words.{IsWord}
use Rattle.pass_runs.proofs.LowerRuns.OperatorWords.Remainders.{remainder_below, remainder_small}
use Rattle.pass_runs.proofs.LowerRuns.OperatorWords.Conversions.{converted_number}
use Rattle.pass_runs.proofs.LowerRuns.OperatorWords.Resizing.{converted_pattern}
use Rattle.pass_runs.proofs.LowerRuns.OperatorWords.Ranges.{each_holds, of_type, range_is}

-- ---- words

-- each word of so many bits is that of its number
pub word_of : (k : CType) (w : ℕ) → w < 2 ^ width k → IsWord k (number_of k w) w
word_of type.Bool w h = let lt : w < 2 = h in record { number = (omega (arith, ints), omega (arith, ints, lt)); word = sym (remainder_small w 2 lt) }
word_of (type.Int signed bits) w h =
    let k = type.Int signed bits in
    let own = remainder_small w (2 ^ width k) h in
    let same : number_of k w ≡ convert k (pos w) = ap (number_of k) (sym own) in
    record { number = subst (IsOf k) (sym same) (converted_number k (pos w)); word = sym own ∙ converted_pattern signed bits (pos w) ∙ ap (pattern k) (sym same) }

wrapped_word : (k : CType) (n : ℤ) → IsWord k (wrap k n) (pattern k n)
wrapped_word k n = word_of k (pattern k n) (remainder_below n (2 ^ width k) (pow_pos (width k)))

-- a number of the type that is given
pub given_word : (k : CType) (n v : ℤ) → IsOf k n → n ≡ v → IsWord k v (pattern k n)
given_word k n v h e = subst (λ u. IsWord k u (pattern k n)) e (record { number = h; word = refl })

-- ---- numbers that are given

abbrev number_in : Computed → ℤ
number_in (c.defined n) = n
number_in (c.undefined rule) = pos 0

abbrev is_number : Computed → Bool
is_number (c.defined n) = true
is_number (c.undefined rule) = false

pub same_number : (n v : ℤ) → c.defined n ≡ c.defined v → n ≡ v
same_number n v e = ap number_in e

undefined_not : (rule : UbRule) (v : ℤ) → c.undefined rule ≡ c.defined v → ⊥
undefined_not rule v e = false≢true (ap is_number e)

-- ---- sums, differences, products and negations

pub record Ranged (k : CType) (n v : ℤ) : Type 0 where
  pub word : IsWord k v (pattern k n)
  pub within : op.in_range (is_signed k) (width k) n ≡ true

wrapped_ranged : (k : CType) (n v : ℤ) → is_signed k ≡ false → c.defined (wrap k n) ≡ c.defined v → Ranged k n v
wrapped_ranged k n v u e = record {
  word = subst (λ m. IsWord k m (pattern k n)) (same_number (wrap k n) v e) (wrapped_word k n);
  within = ap (λ signed. op.in_range signed (width k) n) u;
}

pub ranged : (k : CType) (n v : ℤ) → c.in_range k n ≡ c.defined v → Ranged k n v
ranged type.Bool n v e = wrapped_ranged type.Bool n v refl e
ranged (type.Int false bits) n v e = wrapped_ranged (type.Int false bits) n v refl e
ranged (type.Int true bits) n v e = either (is_of (type.Int true bits) n) refl e where
  either : (b : Bool) → is_of (type.Int true bits) n ≡ b → (if b then c.defined n else c.undefined ub.Overflow) ≡ c.defined v → Ranged (type.Int true bits) n v
  either true t e = record { word = given_word (type.Int true bits) n v (of_type (type.Int true bits) n t) (same_number n v e); within = range_is (type.Int true bits) n ∙ t }
  either false t e = absurd (undefined_not ub.Overflow v e)

-- ---- quotients and remainders

pub record Divided (f : ℤ → ℤ → ℤ) (k : CType) (x y v : ℤ) : Type 0 where
  pub nonzero : int_eq y (pos 0) ≡ false
  pub within : is_of k (int_div x y) ≡ true
  pub value : f x y ≡ v

pub divided : (f : ℤ → ℤ → ℤ) (k : CType) (x y v : ℤ) → c.divided f k x y ≡ c.defined v → Divided f k x y v
divided f k x y v e = either (int_eq y (pos 0)) refl (is_of k (int_div x y)) refl e where
  either : (z : Bool) → int_eq y (pos 0) ≡ z → (b : Bool) → is_of k (int_div x y) ≡ b
      → (if z then c.undefined ub.DivideByZero else (if b then c.defined (f x y) else c.undefined ub.QuotientRange)) ≡ c.defined v → Divided f k x y v
  either true s b t e = absurd (undefined_not ub.DivideByZero v e)
  either false s true t e = record { nonzero = s; within = t; value = same_number (f x y) v e }
  either false s false t e = absurd (undefined_not ub.QuotientRange v e)

-- ---- shifts

pub record Shifted (f : CType → ℤ → ℕ → Computed) (k : CType) (n y v : ℤ) : Type 0 where
  pub count : ℕ
  pub count_is : y ≡ pos count
  pub below : nat_lt count (width k) ≡ true
  pub value : f k n count ≡ c.defined v

pub shifted : (f : CType → ℤ → ℕ → Computed) (k : CType) (n y v : ℤ) → c.shifted f k n y ≡ c.defined v → Shifted f k n y v
shifted f k n (negsuc below) v e = absurd (undefined_not ub.ShiftCount v e)
shifted f k n (pos count) v e = either (int_lt (pos count) (pos (width k))) refl e where
  either : (b : Bool) → int_lt (pos count) (pos (width k)) ≡ b → (if b then f k n count else c.undefined ub.ShiftCount) ≡ c.defined v → Shifted f k n (pos count) v
  either true t e = record { count = count; count_is = refl; below = t; value = e }
  either false t e = absurd (undefined_not ub.ShiftCount v e)

pub record ShiftedLeft (k : CType) (n : ℤ) (count : ℕ) (v : ℤ) : Type 0 where
  pub word : IsWord k v (pattern k (n *ℤ pos (2 ^ count)))
  pub within : (not (is_signed k) || (int_le (pos 0) n && op.is_of (is_signed k) (width k) (n *ℤ pos (2 ^ count)))) ≡ true

wrapped_left : (k : CType) (n : ℤ) (count : ℕ) (v : ℤ) → is_signed k ≡ false → c.defined (wrap k (n *ℤ pos (2 ^ count))) ≡ c.defined v → ShiftedLeft k n count v
wrapped_left k n count v u e = record {
  word = (wrapped_ranged k (n *ℤ pos (2 ^ count)) v u e).word;
  within = ap (λ signed. not signed || (int_le (pos 0) n && op.is_of signed (width k) (n *ℤ pos (2 ^ count)))) u;
}

pub shifted_left : (k : CType) (n : ℤ) (count : ℕ) (v : ℤ) → c.shifted_left k n count ≡ c.defined v → ShiftedLeft k n count v
shifted_left type.Bool n count v e = wrapped_left type.Bool n count v refl e
shifted_left (type.Int false bits) n count v e = wrapped_left (type.Int false bits) n count v refl e
shifted_left (type.Int true bits) n count v e = either (int_le (pos 0) n && is_of (type.Int true bits) (n *ℤ pos (2 ^ count))) refl e where
  either : (b : Bool) → (int_le (pos 0) n && is_of (type.Int true bits) (n *ℤ pos (2 ^ count))) ≡ b → (if b then c.defined (n *ℤ pos (2 ^ count)) else c.undefined ub.ShiftLeft) ≡ c.defined v → ShiftedLeft (type.Int true bits) n count v
  either true t e =
      let k = type.Int true bits in
      let h = each_holds (int_le (pos 0) n) (is_of k (n *ℤ pos (2 ^ count))) t in
      record {
        word = given_word k (n *ℤ pos (2 ^ count)) v (of_type k (n *ℤ pos (2 ^ count)) h.1) (same_number (n *ℤ pos (2 ^ count)) v e);
        within = ap (λ b. int_le (pos 0) n && b) (range_is k (n *ℤ pos (2 ^ count))) ∙ t;
      }
  either false t e = absurd (undefined_not ub.ShiftLeft v e)
