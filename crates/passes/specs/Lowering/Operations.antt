-- Operations that are added to those of a block, and the conversions between the types of C as operations.
use Rattle.std.specs.Prelude.{ℕ, Bool, false, List, [], ◌∷◌, ◌++◌, length, nat_lt, nat_eq, Option, Some, None, if◌then◌else◌}
use Rattle.hls_base.specs.declared.place.Place.{Place}
use Rattle.hls_base.specs.declared.number.ArrayId.{ArrayId}
use Rattle.hls_base.specs.declared.number.VarId.{VarId}
use Rattle.c_token.specs.declared.ctype.CType.{CType}
use Rattle.c_token.specs.declared.ctype.CType.TheVariants as type
use Rattle.c_value.specs.Values.{int_type, width, is_signed, promoted, convert, number_of, pattern}
use Rattle.ir_core.specs.declared.body.OpKind.{OpKind}
use Rattle.ir_core.specs.declared.body.OpKind.TheVariants as o
use Rattle.ir_core.specs.declared.body.Operand.{Operand}
use Rattle.ir_core.specs.declared.body.Source.{Source}
use Rattle.ir_core.specs.declared.body.Source.TheVariants as source
use Rattle.ir_core.specs.Bodies.{OpTree}

-- ---- operands

abbrev pub operand : Source → Operand
operand s = record { value = s; distance = 0 }

abbrev pub constant : ℕ → Operand
constant word = operand (source.Constant word)

-- what the variable holds as the block is entered
abbrev pub entry_value : VarId → Operand
entry_value variable = operand (source.Variable variable)

-- the result of the operation with this number
abbrev pub result_of : ℕ → Operand
result_of n = operand (source.Result (record { 0 = n }))

-- ---- operations

-- one that is always defined
abbrev pub defined : OpKind → Bool → ℕ → List Operand → OpTree
defined kind signed bits args = record { kind = kind; signed = signed; bits = bits; args = args; array = None; guard = None; flag = None }

-- one to which no sign belongs
abbrev pub plain : OpKind → ℕ → List Operand → OpTree
plain kind bits args = defined kind false bits args

-- one that may be undefined, which it is at this place, and only where the guard holds
abbrev pub flagged : OpKind → Bool → ℕ → List Operand → Option ArrayId → Place → Option Operand → OpTree
flagged kind signed bits args array at guard = record { kind = kind; signed = signed; bits = bits; args = args; array = array; guard = guard; flag = Some at }

-- the operations of a block so far, and the operand that is wanted
pub record Emitted : Type 0 where
  pub ops : List OpTree
  pub operand : Operand

abbrev pub gives : List OpTree → Operand → Emitted
gives ops x = record { ops = ops; operand = x }

abbrev pub added : List OpTree → OpTree → Emitted
added ops op = gives (ops ++ op ∷ []) (result_of (length ops))

-- ---- conversions between types

-- the operation between types of different widths: to _Bool whether the value is other than 0, to a wider type with the sign of the type that it comes from, and else its low bits
abbrev pub conversion : CType → CType → Operand → OpTree
conversion from type.Bool x = plain o.Truth (width from) (x ∷ [])
conversion from (type.Int signed bits) x =
    if nat_lt (width from) (width (type.Int signed bits)) then defined o.Widen (is_signed from) (width (type.Int signed bits)) (x ∷ [])
    else plain o.Narrow (width (type.Int signed bits)) (x ∷ [])

-- A value whose width stays is the same bits.
abbrev pub resized : List OpTree → CType → CType → Operand → Emitted
resized ops from to x = if nat_eq (width from) (width to) then gives ops x else added ops (conversion from to x)

-- A constant is converted at once.
abbrev pub converted_from : List OpTree → CType → CType → Operand → Source → Emitted
converted_from ops from to x (source.Constant word) = gives ops (constant (pattern to (convert to (number_of from word))))
converted_from ops from to x s = resized ops from to x

abbrev pub converted : List OpTree → CType → CType → Operand → Emitted
converted ops from to x = converted_from ops from to x x.value

-- ---- what expressions give

-- one bit that says whether the expression holds, or a value of a type
pub data Given : Type 0 where
  truth : (bit : Operand) → Given
  value : (word : Operand) (kind : CType) → Given

abbrev pub kind_of : Given → CType
kind_of (truth bit) = int_type
kind_of (value word kind) = kind

-- its value: the bit as an int of 0 or 1
abbrev pub valued : List OpTree → Given → Emitted
valued ops (truth bit) = added ops (plain o.Widen 32 (bit ∷ []))
valued ops (value word kind) = gives ops word

-- whether it is other than 0
abbrev pub tested : List OpTree → Given → Emitted
tested ops (truth bit) = gives ops bit
tested ops (value word type.Bool) = gives ops word
tested ops (value word (type.Int signed bits)) = added ops (plain o.Ne (width (type.Int signed bits)) (word ∷ constant 0 ∷ []))

-- as an assignment or a cast converts it
abbrev pub assigned : List OpTree → Given → CType → Emitted
assigned ops given to = converted (valued ops given).ops (kind_of given) to (valued ops given).operand

abbrev pub promoted_value : List OpTree → Given → Emitted
promoted_value ops given = assigned ops given (promoted (kind_of given))

-- as an operator converts its operand: promoted, and then to the type of the operator
abbrev pub balanced : List OpTree → Given → CType → Emitted
balanced ops given to = converted (promoted_value ops given).ops (promoted (kind_of given)) to (promoted_value ops given).operand
