-- All operators.
use Rattle.std.proofs.Common.{◌≡◌, ◌∙◌, ℕ, Bool, true, false, refl, ap, sym, ℤ, [], ◌∷◌}
use Rattle.std.specs.Prelude.{nat_eq}
use Rattle.std.specs.Ordering.{int_eq}
use Rattle.std.proofs.Common.{arith}
use Rattle.std.proofs.lemmas.Int.{ints}
use Rattle.std.proofs.lemmas.Bool.{false≢true, eqb-true}
use Rattle.c_token.specs.declared.ctype.CType.{CType}
use Rattle.c_tree.specs.declared.operator.Binary.{Binary}
use Rattle.c_tree.specs.declared.operator.Binary.TheVariants as b
use Rattle.c_value.specs.Values.{IsOf, pattern, number_of, convert}
use Rattle.c_value.specs.Operators as c
use Rattle.passes.specs.Lowering.Expressions.{operation}
use Rattle.pass_runs.specs.LowerRuns.OperatorWords.Words.{IsWord, IsArithmetic, IsShift, Agrees, count_type, OperatorsAgree}
use Rattle.pass_runs.proofs.LowerRuns.OperatorWords.Conversions.{word_number}
use Rattle.pass_runs.proofs.LowerRuns.OperatorWords.Operators.{word_kept, words_less, words_at_most}
use Rattle.pass_runs.proofs.LowerRuns.OperatorWords.Agreeing.{sum_agrees, difference_agrees, product_agrees, quotient_agrees, remainder_agrees, and_agrees, or_agrees, xor_agrees, complement_agrees, negation_agrees, left_agrees, right_agrees}

arithmetic : (f : Binary) → IsArithmetic f → (k : CType) (x y v : ℤ) (wx wy : ℕ) → IsWord k x wx → IsWord k y wy → c.balanced f k x y ≡ c.defined v → Agrees (operation f) k v (wx ∷ wy ∷ [])
arithmetic b.Mul t k x y v wx wy h g e = product_agrees k x y v wx wy h g e
arithmetic b.Div t k x y v wx wy h g e = quotient_agrees k x y v wx wy h g e
arithmetic b.Rem t k x y v wx wy h g e = remainder_agrees k x y v wx wy h g e
arithmetic b.Add t k x y v wx wy h g e = sum_agrees k x y v wx wy h g e
arithmetic b.Sub t k x y v wx wy h g e = difference_agrees k x y v wx wy h g e
arithmetic b.And t k x y v wx wy h g e = and_agrees k x y v wx wy h g e
arithmetic b.Xor t k x y v wx wy h g e = xor_agrees k x y v wx wy h g e
arithmetic b.Or t k x y v wx wy h g e = or_agrees k x y v wx wy h g e
arithmetic b.Shl t k x y v wx wy h g e = absurd t
arithmetic b.Shr t k x y v wx wy h g e = absurd t
arithmetic b.Lt t k x y v wx wy h g e = absurd t
arithmetic b.Gt t k x y v wx wy h g e = absurd t
arithmetic b.Le t k x y v wx wy h g e = absurd t
arithmetic b.Ge t k x y v wx wy h g e = absurd t
arithmetic b.Eq t k x y v wx wy h g e = absurd t
arithmetic b.Ne t k x y v wx wy h g e = absurd t
arithmetic b.LogAnd t k x y v wx wy h g e = absurd t
arithmetic b.LogOr t k x y v wx wy h g e = absurd t

shift : (f : Binary) → IsShift f → (k right : CType) (x y v : ℤ) (wx wy : ℕ) → IsOf right y → IsWord k x wx → IsWord (count_type k right) (convert (count_type k right) y) wy → c.balanced f k x y ≡ c.defined v → Agrees (operation f) k v (wx ∷ wy ∷ [])
shift b.Shl t k right x y v wx wy i h g e = left_agrees k right x y v wx wy h g e
shift b.Shr t k right x y v wx wy i h g e = right_agrees k right x y v wx wy h g e
shift b.Mul t k right x y v wx wy i h g e = absurd t
shift b.Div t k right x y v wx wy i h g e = absurd t
shift b.Rem t k right x y v wx wy i h g e = absurd t
shift b.Add t k right x y v wx wy i h g e = absurd t
shift b.Sub t k right x y v wx wy i h g e = absurd t
shift b.And t k right x y v wx wy i h g e = absurd t
shift b.Xor t k right x y v wx wy i h g e = absurd t
shift b.Or t k right x y v wx wy i h g e = absurd t
shift b.Lt t k right x y v wx wy i h g e = absurd t
shift b.Gt t k right x y v wx wy i h g e = absurd t
shift b.Le t k right x y v wx wy i h g e = absurd t
shift b.Ge t k right x y v wx wy i h g e = absurd t
shift b.Eq t k right x y v wx wy i h g e = absurd t
shift b.Ne t k right x y v wx wy i h g e = absurd t
shift b.LogAnd t k right x y v wx wy i h g e = absurd t
shift b.LogOr t k right x y v wx wy i h g e = absurd t

-- ---- equal words are those of equal numbers

int_same : (x : ℤ) → int_eq x x ≡ true
int_same x = grind (arith, ints)

int_out : (x y : ℤ) → int_eq x y ≡ true → x ≡ y
int_out x y e = grind (arith, ints)

nat_same : (n : ℕ) → nat_eq n n ≡ true
nat_same n = grind arith

words_equal : (k : CType) (x y : ℤ) (wx wy : ℕ) → IsWord k x wx → IsWord k y wy → nat_eq wx wy ≡ int_eq x y
words_equal k x y wx wy h g = either (nat_eq wx wy) refl (int_eq x y) refl where
  either : (p : Bool) → nat_eq wx wy ≡ p → (q : Bool) → int_eq x y ≡ q → p ≡ q
  either true e true f = refl
  either false e false f = refl
  either true e false f =
      let same : x ≡ y = sym (word_number k x wx h) ∙ ap (number_of k) (eqb-true wx wy e) ∙ word_number k y wy g in
      absurd (false≢true (sym f ∙ ap (int_eq x) (sym same) ∙ int_same x))
  either false e true f =
      let same : wx ≡ wy = h.word ∙ ap (pattern k) (int_out x y f) ∙ sym g.word in
      absurd (false≢true (sym e ∙ ap (nat_eq wx) (sym same) ∙ nat_same wx))

pub operators_agree : OperatorsAgree
operators_agree = record {
  arithmetic = arithmetic;
  shift = shift;
  less = words_less;
  at_most = words_at_most;
  equal = words_equal;
  negation = negation_agrees;
  complement = complement_agrees;
  kept = word_kept;
}
