-- Conversions between types give on words what they give on numbers.
use Rattle.std.proofs.Common.{◌≡◌, ◌∙◌, ◌≤◌, ℕ, zero, suc, negsuc, ◌+◌, ◌-◌, ◌*◌, ◌^◌, Bool, true, false, not, refl, ap, sym, arith, ℤ, pos, ◌+ℤ◌, ◌-ℤ◌, [], ◌∷◌, if◌then◌else◌}
use Rattle.std.specs.Prelude.{nat_lt, nat_le, nat_eq}
use Rattle.std.specs.Ordering.{int_eq}
use Rattle.std.proofs.lemmas.Int.{ints}
use Rattle.std.proofs.lemmas.Bool.{ltb-false, eqb-true}
use Rattle.std.proofs.lemmas.Nat.{pow_pos, pow-add}
use Rattle.c_token.specs.declared.ctype.CType.{CType}
use Rattle.c_token.specs.declared.ctype.CType.TheVariants as type
use Rattle.c_value.specs.Values.{IsOf, bits_of, integer, width, is_signed, pattern, number_of, convert}
use Rattle.c_meaning.proofs.Conversions.{conversions_are_congruent}
use Rattle.ir_core.specs.declared.body.OpKind.TheVariants as o
use Rattle.ir_core.specs.Value as op
use Rattle.pass_runs.specs.LowerRuns.OperatorWords.Words.{IsWord, resized_word, ConversionsAgree}
use Rattle.pass_runs.proofs.LowerRuns.OperatorWords.Remainders.{remainder, remainder_congruent, same_remainder}
use Rattle.pass_runs.proofs.LowerRuns.OperatorWords.Conversions.{converted_number, word_number, word_zero, promoted_number}

-- ---- the operations' patterns and numbers are those of types

pub bits_case : (P : ℕ → Type 0) → P 8 → P 16 → P 32 → P 64 → (bits : ℕ) → P (bits_of bits)
bits_case P p8 p16 p32 p64 bits = at (nat_le bits 8) (nat_le bits 16) (nat_le bits 32) where
  at : (a b c : Bool) → P (if a then 8 else (if b then 16 else (if c then 32 else 64)))
  at true b c = p8
  at false true c = p16
  at false false true = p32
  at false false false = p64

pub count_is : (k : CType) → op.count_of (width k) ≡ 2 ^ width k
count_is type.Bool = refl
count_is (type.Int signed bits) = bits_case (λ n. op.count_of n ≡ 2 ^ n) refl refl refl refl bits

pub half_is : (bits : ℕ) → op.half_of (bits_of bits) ≡ 2 ^ (bits_of bits - 1)
half_is bits = bits_case (λ n. op.half_of n ≡ 2 ^ (n - 1)) refl refl refl refl bits

pub pattern_is : (k : CType) (n : ℤ) → op.pattern (width k) n ≡ remainder n (2 ^ width k)
pattern_is k n = ap (remainder n) (count_is k)

le_not : (a b : ℕ) → nat_le a b ≡ not (nat_lt b a)
le_not a b = grind (arith, ints)

exchanged : (c : Bool) (x y : ℤ) → (if not c then x else y) ≡ (if c then y else x)
exchanged true x y = refl
exchanged false x y = refl

pub number_is : (k : CType) (w : ℕ) → op.number_of (is_signed k) (width k) w ≡ number_of k w
number_is type.Bool w = refl
number_is (type.Int false bits) w = refl
number_is (type.Int true bits) w =
    let W = bits_of bits in
    ap (λ h. if nat_le h w then pos w -ℤ pos (op.count_of (bits_of bits)) else pos w) (half_is bits)
    ∙ ap (λ m. if nat_le (2 ^ (bits_of bits - 1)) w then pos w -ℤ pos m else pos w) (count_is (type.Int true bits))
    ∙ ap (λ c. if c then pos w -ℤ pos (2 ^ bits_of bits) else pos w) (le_not (2 ^ (bits_of bits - 1)) w)
    ∙ exchanged (nat_lt w (2 ^ (bits_of bits - 1))) (pos w -ℤ pos (2 ^ bits_of bits)) (pos w)

-- ---- conversions

-- the pattern of a number that is converted
pub converted_pattern : (signed : Bool) (bits : ℕ) (v : ℤ) → remainder v (2 ^ bits_of bits) ≡ pattern (integer signed bits) (convert (integer signed bits) v)
converted_pattern signed bits v =
    let h = (conversions_are_congruent signed bits v).congruent in
    same_remainder (2 ^ bits_of bits) v (convert (integer signed bits) v) (pow_pos (bits_of bits)) (record { before = h.before; behind = h.behind; same = h.same })

-- fewer bits of a pattern
narrowed : (m n : ℕ) (v : ℤ) → n ≤ m → remainder (pos (remainder v (2 ^ m))) (2 ^ n) ≡ remainder v (2 ^ n)
narrowed m n v le =
    let h = remainder_congruent v (2 ^ m) (pow_pos m) in
    let d = m - n in
    let sum : m - n + n ≡ m = omega (arith, le) in
    let power : 2 ^ m ≡ 2 ^ (m - n) * 2 ^ n = ap (λ k. 2 ^ k) (sym sum) ∙ pow-add 2 (m - n) n in
    let before : h.before * 2 ^ m ≡ h.before * 2 ^ (m - n) * 2 ^ n = ap (λ k. h.before * k) power ∙ (let e : h.before * (2 ^ (m - n) * 2 ^ n) ≡ h.before * 2 ^ (m - n) * 2 ^ n = omega arith in e) in
    let behind : h.behind * 2 ^ m ≡ h.behind * 2 ^ (m - n) * 2 ^ n = ap (λ k. h.behind * k) power ∙ (let e : h.behind * (2 ^ (m - n) * 2 ^ n) ≡ h.behind * 2 ^ (m - n) * 2 ^ n = omega arith in e) in
    sym (same_remainder (2 ^ n) v (pos (remainder v (2 ^ m))) (pow_pos n)
    (record {
      before = h.before * 2 ^ (m - n);
      behind = h.behind * 2 ^ (m - n);
      same = ap (λ k. v +ℤ pos k) (sym before) ∙ h.same ∙ ap (λ k. pos (remainder v (2 ^ m)) +ℤ pos k) behind;
    }))

to_integer : (from : CType) (signed : Bool) (bits : ℕ) (v : ℤ) (w : ℕ) → IsWord from v w → resized_word from (type.Int signed bits) w ≡ remainder v (2 ^ bits_of bits)
to_integer from signed bits v w h = either (nat_eq (width from) (bits_of bits)) refl (nat_lt (width from) (bits_of bits)) refl where
  to : CType
  to = type.Int signed bits

  either : (c : Bool) → nat_eq (width from) (bits_of bits) ≡ c → (d : Bool) → nat_lt (width from) (bits_of bits) ≡ d
      → (if c then w else (if d then op.value o.Widen (is_signed from) (bits_of bits) (width from) (w ∷ []) else op.value o.Narrow false (bits_of bits) (width from) (w ∷ []))) ≡ remainder v (2 ^ bits_of bits)
  either true e d f = h.word ∙ ap (λ n. remainder v (2 ^ n)) (eqb-true (width from) (bits_of bits) e)
  either false e true f = pattern_is (type.Int signed bits) (op.number_of (is_signed from) (width from) w) ∙ ap (λ n. remainder n (2 ^ bits_of bits)) (number_is from w ∙ word_number from v w h)
  either false e false f =
      pattern_is (type.Int signed bits) (pos w) ∙ ap (λ n. remainder (pos n) (2 ^ bits_of bits)) h.word ∙ narrowed (width from) (bits_of bits) v (ltb-false (width from) (bits_of bits) f)

bool_word : (c : Bool) → op.truth (not c) ≡ pattern type.Bool (if c then pos 0 else pos 1)
bool_word true = refl
bool_word false = refl

to_bool : (from : CType) (v : ℤ) (w : ℕ) → IsWord from v w → resized_word from type.Bool w ≡ pattern type.Bool (convert type.Bool v)
to_bool type.Bool v w h = h.word ∙ sym (ap (pattern type.Bool) (same v h.number)) where
  same : (v : ℤ) → IsOf type.Bool v → convert type.Bool v ≡ v
  same (pos zero) h = refl
  same (pos (suc zero)) h = refl
  same (pos (suc (suc n))) h = let e = h.1 in absurd (omega (arith, ints, e))
  same (negsuc n) h = let e = h.0 in absurd (omega (arith, ints, e))
to_bool (type.Int signed bits) v w h =
    ap (λ c. if c then w else op.truth (not (nat_eq w 0))) (bits_case (λ n. nat_eq n 1 ≡ false) refl refl refl refl bits)
    ∙ ap (λ c. op.truth (not c)) (word_zero (type.Int signed bits) v w h) ∙ bool_word (int_eq v (pos 0))

resized_agrees : (from to : CType) (v : ℤ) (w : ℕ) → IsWord from v w → IsWord to (convert to v) (resized_word from to w)
resized_agrees from type.Bool v w h = record { number = converted_number type.Bool v; word = to_bool from v w h }
resized_agrees from (type.Int signed bits) v w h = record { number = converted_number (type.Int signed bits) v; word = to_integer from signed bits v w h ∙ converted_pattern signed bits v }

pub conversions_agree : ConversionsAgree
conversions_agree = record { resized = resized_agrees; number = converted_number; back = word_number; promotion = promoted_number; zero = word_zero }
