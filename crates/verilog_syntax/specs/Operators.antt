-- The operators among the signs.
use Rattle.std.specs.Prelude.{Option, Some, None}
use Rattle.rtl_core.specs.declared.design.Pair.{Pair}
use Rattle.rtl_core.specs.declared.design.Pair.TheVariants as pair
use Rattle.verilog_syntax.specs.declared.token.Sign.{Sign}
use Rattle.verilog_syntax.specs.declared.token.Sign.TheVariants as s

abbrev pub operator_of : Sign → Option Pair
operator_of s.Plus = Some pair.Add
operator_of s.Minus = Some pair.Sub
operator_of s.Star = Some pair.Mul
operator_of s.Ampersand = Some pair.And
operator_of s.Bar = Some pair.Or
operator_of s.Caret = Some pair.Xor
operator_of s.EqualEqual = Some pair.Equal
operator_of s.Less = Some pair.Below
operator_of s.ShiftLeft = Some pair.Left
operator_of s.ShiftRight = Some pair.Right
operator_of _ = None
