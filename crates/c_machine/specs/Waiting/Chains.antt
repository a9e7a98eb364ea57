-- The operators of a chain around an operand, outermost first, each with the type of its right operand.
use Rattle.std.specs.Prelude.{List, [], ◌∷◌}
use Rattle.c_token.specs.declared.ctype.CType.{CType}
use Rattle.c_value.specs.Operators.{binary_kind}
use Rattle.c_machine.specs.declared.waiting.chain.Operator.{Operator}

-- the type of the chain around an operand of this type
abbrev pub around : List Operator → CType → CType
around [] kind = kind
around (first ∷ rest) kind = binary_kind first.op (around rest kind) first.right
