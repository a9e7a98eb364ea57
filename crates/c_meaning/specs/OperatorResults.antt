-- The results of operators are numbers of their types.
use Rattle.std.specs.Prelude.{◌≡◌, ℤ}
use Rattle.c_token.specs.declared.ctype.CType.{CType}
use Rattle.c_tree.specs.declared.operator.Unary.{Unary}
use Rattle.c_tree.specs.declared.operator.Binary.{Binary}
use Rattle.c_value.specs.Values.{convert}
use Rattle.c_value.specs.Operators.{unary_kind, binary_kind, unary_value, binary_value, defined}

-- A number of a type is one that a conversion to it leaves alone. The operands may be any numbers.
abbrev pub UnaryResultsFit : Type 0
UnaryResultsFit = (op : Unary) (k : CType) (x v : ℤ) → unary_value op k x ≡ defined v → convert (unary_kind op k) v ≡ v

abbrev pub BinaryResultsFit : Type 0
BinaryResultsFit = (op : Binary) (left right : CType) (x y v : ℤ) → binary_value op left x right y ≡ defined v → convert (binary_kind op left right) v ≡ v
