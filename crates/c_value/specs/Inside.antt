-- Groups of operators, and the code's answers.
use Rattle.std.specs.Prelude.{ℤ, Bool, false, not, int_lt, int_le}
use Rattle.std.specs.Ordering.{int_eq}
use Rattle.c_tree.specs.declared.operator.Binary.{Binary}
use Rattle.c_tree.specs.declared.operator.Binary.TheVariants as b
use Rattle.c_value.specs.Constant.{ConstantValue, constant, undefined_constant, not_constant}
use Rattle.c_value.specs.declared.constant.Constant.{Constant}
use Rattle.c_value.specs.declared.constant.Constant.TheVariants as k

abbrev pub IsShift : Binary → Type 0
IsShift b.Shl = Unit {0}
IsShift b.Shr = Unit {0}
IsShift _ = ⊥

abbrev pub IsComparison : Binary → Type 0
IsComparison b.Lt = Unit {0}
IsComparison b.Gt = Unit {0}
IsComparison b.Le = Unit {0}
IsComparison b.Ge = Unit {0}
IsComparison b.Eq = Unit {0}
IsComparison b.Ne = Unit {0}
IsComparison _ = ⊥

-- C11 6.5.8 and 6.5.9
abbrev pub comparison : Binary → ℤ → ℤ → Bool
comparison b.Lt x y = int_lt x y
comparison b.Gt x y = int_lt y x
comparison b.Le x y = int_le x y
comparison b.Ge x y = int_le y x
comparison b.Eq x y = int_eq x y
comparison b.Ne x y = not (int_eq x y)
comparison _ x y = false

-- what the code's answer is as a constant
abbrev pub value_of : Constant → ConstantValue
value_of (k.Number kind number) = constant kind number
value_of (k.Undefined rule) = undefined_constant rule
value_of k.Other = not_constant
