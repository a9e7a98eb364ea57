-- The operators of C, on values: C11 6.5.3.3 and 6.5.5 to 6.5.14. Which behaviour is undefined is told here, and nowhere else.
use Rattle.std.specs.Prelude.{ℕ, ◌-◌, ◌^◌, Bool, true, false, not, ◌&&◌, ◌||◌, ℤ, pos, negsuc, ◌+ℤ◌, ◌-ℤ◌, ◌*ℤ◌, neg_ℤ, int_lt, int_le, int_div, int_rem, bit_and, bit_or, bit_xor, Result, Ok, Err, if◌then◌else◌}
use Rattle.std.specs.Int.{int_shr}
use Rattle.std.specs.Ordering.{int_eq}
use Rattle.hls_base.specs.declared.refusal.UbRule.{UbRule}
use Rattle.hls_base.specs.declared.refusal.UbRule.TheVariants as ub
use Rattle.c_token.specs.declared.ctype.CType.{CType}
use Rattle.c_tree.specs.declared.operator.Unary.{Unary}
use Rattle.c_tree.specs.declared.operator.Unary.TheVariants as u
use Rattle.c_tree.specs.declared.operator.Binary.{Binary}
use Rattle.c_tree.specs.declared.operator.Binary.TheVariants as b
use Rattle.c_value.specs.Values.{int_type, width, is_signed, is_of, pattern, number_of, wrap, convert, promoted, common}

-- what an operator gives: a number of its type, or behaviour that is undefined by this rule
pub data Computed : Type 0 where
  defined : (number : ℤ) → Computed
  undefined : (rule : UbRule) → Computed

-- the same as the code's answer
abbrev pub computed_of : Result ℤ UbRule → Computed
computed_of (Ok n) = defined n
computed_of (Err rule) = undefined rule

-- a truth value as an int
abbrev pub truth : Bool → ℤ
truth true = pos 1
truth false = pos 0

abbrev pub is_true : ℤ → Bool
is_true n = not (int_eq n (pos 0))

-- ---- the types of results

-- C11 6.5.3.3
abbrev pub unary_kind : Unary → CType → CType
unary_kind u.Plus kind = promoted kind
unary_kind u.Minus kind = promoted kind
unary_kind u.Not kind = promoted kind
unary_kind u.LogNot kind = int_type

-- C11 6.5.5 to 6.5.14: a shift has the type of its promoted left operand, and a comparison, `&&` and `||` an int
abbrev pub binary_kind : Binary → CType → CType → CType
binary_kind b.Mul left right = common left right
binary_kind b.Div left right = common left right
binary_kind b.Rem left right = common left right
binary_kind b.Add left right = common left right
binary_kind b.Sub left right = common left right
binary_kind b.Shl left right = promoted left
binary_kind b.Shr left right = promoted left
binary_kind b.Lt left right = int_type
binary_kind b.Gt left right = int_type
binary_kind b.Le left right = int_type
binary_kind b.Ge left right = int_type
binary_kind b.Eq left right = int_type
binary_kind b.Ne left right = int_type
binary_kind b.And left right = common left right
binary_kind b.Xor left right = common left right
binary_kind b.Or left right = common left right
binary_kind b.LogAnd left right = int_type
binary_kind b.LogOr left right = int_type

-- ---- the values of results

-- The result of a sum, difference, product or negation is that of true integers: of a signed type it is undefined where the type does not have it (C11 6.5 paragraph 5), and of an unsigned type it is modulo 2^width (6.2.5 paragraph 9).
abbrev pub in_range : CType → ℤ → Computed
in_range kind n = if is_signed kind then (if is_of kind n then defined n else undefined ub.Overflow) else defined (wrap kind n)

-- Each bit of the result comes from those of the operands: C11 6.5.3.3 paragraph 4 and 6.5.10 to 6.5.12.
abbrev pub complement : CType → ℤ → ℤ
complement kind n = number_of kind (2 ^ width kind - 1 - pattern kind n)

abbrev pub bitwise : (ℕ → ℕ → ℕ) → CType → ℤ → ℤ → ℤ
bitwise f kind x y = number_of kind (f (pattern kind x) (pattern kind y))

-- an operand of this type and number, C11 6.5.3.3
abbrev pub unary_value : Unary → CType → ℤ → Computed
unary_value u.Plus kind n = defined (convert (promoted kind) n)
unary_value u.Minus kind n = in_range (promoted kind) (neg_ℤ (convert (promoted kind) n))
unary_value u.Not kind n = defined (complement (promoted kind) n)
unary_value u.LogNot kind n = defined (truth (not (is_true n)))

-- The quotient is rounded toward zero, and the remainder is what is left of the dividend. Neither is defined where the divisor is 0 or the type does not have the quotient. C11 6.5.5 paragraphs 5 and 6.
abbrev pub divided : (ℤ → ℤ → ℤ) → CType → ℤ → ℤ → Computed
divided f kind x y =
    if int_eq y (pos 0) then undefined ub.DivideByZero
    else (if is_of kind (int_div x y) then defined (f x y) else undefined ub.QuotientRange)

-- C11 6.5.7 paragraph 4: a number of an unsigned type is shifted modulo 2^width, and one of a signed type only where it is not negative and the type has the result
abbrev pub shifted_left : CType → ℤ → ℕ → Computed
shifted_left kind n count =
    if is_signed kind
    then (if int_le (pos 0) n && is_of kind (n *ℤ pos (2 ^ count)) then defined (n *ℤ pos (2 ^ count)) else undefined ub.ShiftLeft)
    else defined (wrap kind (n *ℤ pos (2 ^ count)))

-- C11 6.5.7 paragraph 5: the quotient by a power of two, and for a negative number that quotient rounded down
abbrev pub shifted_right : CType → ℤ → ℕ → Computed
shifted_right kind n count = defined (int_shr n count)

-- C11 6.5.7 paragraph 3: the count is not negative and below the width of the promoted left operand
abbrev pub shifted : (CType → ℤ → ℕ → Computed) → CType → ℤ → ℤ → Computed
shifted f kind n (pos count) = if int_lt (pos count) (pos (width kind)) then f kind n count else undefined ub.ShiftCount
shifted f kind n (negsuc below) = undefined ub.ShiftCount

-- an operator on two numbers that were converted to their common type
abbrev pub balanced : Binary → CType → ℤ → ℤ → Computed
balanced b.Mul kind x y = in_range kind (x *ℤ y)
balanced b.Div kind x y = divided int_div kind x y
balanced b.Rem kind x y = divided int_rem kind x y
balanced b.Add kind x y = in_range kind (x +ℤ y)
balanced b.Sub kind x y = in_range kind (x -ℤ y)
balanced b.Lt kind x y = defined (truth (int_lt x y))
balanced b.Gt kind x y = defined (truth (int_lt y x))
balanced b.Le kind x y = defined (truth (int_le x y))
balanced b.Ge kind x y = defined (truth (int_le y x))
balanced b.Eq kind x y = defined (truth (int_eq x y))
balanced b.Ne kind x y = defined (truth (not (int_eq x y)))
balanced b.And kind x y = defined (bitwise bit_and kind x y)
balanced b.Xor kind x y = defined (bitwise bit_xor kind x y)
balanced b.Or kind x y = defined (bitwise bit_or kind x y)
balanced b.LogAnd kind x y = defined (truth (is_true x && is_true y))
balanced b.LogOr kind x y = defined (truth (is_true x || is_true y))
balanced b.Shl kind x y = shifted shifted_left kind x y
balanced b.Shr kind x y = shifted shifted_right kind x y

-- Operands of these types and numbers, both evaluated. Those of a shift are promoted each by itself (C11 6.5.7), `&&` and `||` compare each with 0 (6.5.13, 6.5.14), and all others bring them to their common type (6.3.1.8).
abbrev pub binary_value : Binary → CType → ℤ → CType → ℤ → Computed
binary_value b.Shl left x right y = balanced b.Shl (promoted left) (convert (promoted left) x) (convert (promoted right) y)
binary_value b.Shr left x right y = balanced b.Shr (promoted left) (convert (promoted left) x) (convert (promoted right) y)
binary_value b.LogAnd left x right y = balanced b.LogAnd int_type x y
binary_value b.LogOr left x right y = balanced b.LogOr int_type x y
binary_value op left x right y = balanced op (common left right) (convert (common left right) x) (convert (common left right) y)
