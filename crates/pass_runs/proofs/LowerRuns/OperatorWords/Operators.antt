-- Operators on words: what is known so far of those on numbers.
use Rattle.std.proofs.Common.{◌≡◌, ◌∙◌, ◌<◌, ℕ, ◌^◌, ◌+◌, ap₂, sym, subst, arith, ℤ, pos, ◌+ℤ◌, ◌-ℤ◌, [], ◌∷◌}
use Rattle.std.specs.Prelude.{int_lt, int_le}
use Rattle.std.proofs.lemmas.Int.{ints}
use Rattle.std.proofs.lemmas.Nat.{pow_pos}
use Rattle.c_token.specs.declared.ctype.CType.{CType}
use Rattle.c_value.specs.Values.{width, is_signed, pattern}
use Rattle.ir_core.specs.declared.body.OpKind.TheVariants as o
use Rattle.ir_core.specs.declared.body.Simple.TheVariants as s
use Rattle.ir_core.specs.Value as op
use Rattle.pass_runs.specs.LowerRuns.OperatorWords.Words.{IsWord}
use Rattle.pass_runs.proofs.LowerRuns.OperatorWords.Remainders.{Congruent, remainder_below, remainder_congruent, remainder_small, same_remainder}
use Rattle.pass_runs.proofs.LowerRuns.OperatorWords.Conversions.{word_number}
use Rattle.pass_runs.proofs.LowerRuns.OperatorWords.Resizing.{pattern_is, number_is}

pub word_below : (k : CType) (v : ℤ) (w : ℕ) → IsWord k v w → w < 2 ^ width k
word_below k v w h = subst (λ n. n < 2 ^ width k) (sym h.word) (remainder_below v (2 ^ width k) (pow_pos (width k)))

-- a word stays as it is
pub word_kept : (k : CType) (v : ℤ) (w : ℕ) → IsWord k v w → op.pattern (width k) (pos w) ≡ w
word_kept k v w h = pattern_is k (pos w) ∙ remainder_small w (2 ^ width k) (word_below k v w h)

-- its number is that of the type
pub word_means : (k : CType) (v : ℤ) (w : ℕ) → IsWord k v w → op.number_of (is_signed k) (width k) w ≡ v
word_means k v w h = number_is k w ∙ word_number k v w h

pub words_less : (k : CType) (x y : ℤ) (wx wy : ℕ) → IsWord k x wx → IsWord k y wy → op.value o.Lt (is_signed k) (width k) 0 (wx ∷ wy ∷ []) ≡ op.truth (int_lt x y)
words_less k x y wx wy h g = ap₂ (λ a b. op.truth (int_lt a b)) (word_means k x wx h) (word_means k y wy g)

pub words_at_most : (k : CType) (x y : ℤ) (wx wy : ℕ) → IsWord k x wx → IsWord k y wy → op.value o.Le (is_signed k) (width k) 0 (wx ∷ wy ∷ []) ≡ op.truth (int_le x y)
words_at_most k x y wx wy h g = ap₂ (λ a b. op.truth (int_le a b)) (word_means k x wx h) (word_means k y wy g)

-- ---- sums and differences of words are those of numbers, as patterns

pub word_congruent : (k : CType) (v : ℤ) (w : ℕ) → IsWord k v w → Congruent (2 ^ width k) v (pos w)
word_congruent k v w h = subst (λ n. Congruent (2 ^ width k) v (pos n)) (sym h.word) (remainder_congruent v (2 ^ width k) (pow_pos (width k)))

sums_congruent : (m : ℕ) (x y a b : ℤ) → Congruent m x a → Congruent m y b → Congruent m (x +ℤ y) (a +ℤ b)
sums_congruent m x y a b h g = record { before = h.before + g.before; behind = h.behind + g.behind; same = let e = h.same in let f = g.same in omega (arith, ints, e, f) }

differences_congruent : (m : ℕ) (x y a b : ℤ) → Congruent m x a → Congruent m y b → Congruent m (x -ℤ y) (a -ℤ b)
differences_congruent m x y a b h g = record { before = h.before + g.behind; behind = h.behind + g.before; same = let e = h.same in let f = g.same in omega (arith, ints, e, f) }

pub word_sum : (k : CType) (x y : ℤ) (wx wy : ℕ) → IsWord k x wx → IsWord k y wy → op.simple s.Add (width k) wx wy ≡ pattern k (x +ℤ y)
word_sum k x y wx wy h g =
    pattern_is k (pos wx +ℤ pos wy)
    ∙ sym (same_remainder (2 ^ width k) (x +ℤ y) (pos wx +ℤ pos wy) (pow_pos (width k)) (sums_congruent (2 ^ width k) x y (pos wx) (pos wy) (word_congruent k x wx h) (word_congruent k y wy g)))

pub word_difference : (k : CType) (x y : ℤ) (wx wy : ℕ) → IsWord k x wx → IsWord k y wy → op.simple s.Sub (width k) wx wy ≡ pattern k (x -ℤ y)
word_difference k x y wx wy h g =
    pattern_is k (pos wx -ℤ pos wy)
    ∙ sym (same_remainder (2 ^ width k) (x -ℤ y) (pos wx -ℤ pos wy) (pow_pos (width k)) (differences_congruent (2 ^ width k) x y (pos wx) (pos wy) (word_congruent k x wx h) (word_congruent k y wy g)))
