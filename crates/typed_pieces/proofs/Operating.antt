-- What operators give is of a type of C.
use Rattle.std.proofs.Common.{Bool, true, false, ◌&&◌, refl, if◌then◌else◌}
use Rattle.std.specs.Prelude.{nat_lt}
use Rattle.c_token.specs.declared.ctype.CType.{CType}
use Rattle.c_token.specs.declared.ctype.CType.TheVariants as type
use Rattle.c_tree.specs.declared.operator.Unary.{Unary}
use Rattle.c_tree.specs.declared.operator.Unary.TheVariants as u
use Rattle.c_tree.specs.declared.operator.Binary.{Binary}
use Rattle.c_tree.specs.declared.operator.Binary.TheVariants as b
use Rattle.c_value.specs.Values.{int_type, promoted, wider, common}
use Rattle.c_value.specs.Operators.{unary_kind, binary_kind}
use Rattle.pass_runs.specs.LowerRuns.OperatorWords.Words.{IsType}

if_type : (c : Bool) (j k : CType) → IsType j → IsType k → IsType (if c then j else k)
if_type true j k h g = h
if_type false j k h g = g

pub promoted_type : (k : CType) → IsType k → IsType (promoted k)
promoted_type type.Bool h = refl
promoted_type (type.Int signed bits) h = if_type (nat_lt bits 32) int_type (type.Int signed bits) refl h

wider_type : (j k : CType) → IsType j → IsType k → IsType (wider j k)
wider_type type.Bool k h g = refl
wider_type (type.Int signed bits) type.Bool h g = refl
wider_type (type.Int signed bits) (type.Int signed' bits') h g =
    if_type (nat_lt bits bits') (type.Int signed' bits') (if nat_lt bits' bits then type.Int signed bits else type.Int (signed && signed') bits) g
    (if_type (nat_lt bits' bits) (type.Int signed bits) (type.Int (signed && signed') bits) h h)

pub common_type : (j k : CType) → IsType j → IsType k → IsType (common j k)
common_type j k h g = wider_type (promoted j) (promoted k) (promoted_type j h) (promoted_type k g)

pub unary_type : (op : Unary) (k : CType) → IsType k → IsType (unary_kind op k)
unary_type u.Plus k h = promoted_type k h
unary_type u.Minus k h = promoted_type k h
unary_type u.Not k h = promoted_type k h
unary_type u.LogNot k h = refl

pub binary_type : (op : Binary) (j k : CType) → IsType j → IsType k → IsType (binary_kind op j k)
binary_type b.Mul j k h g = common_type j k h g
binary_type b.Div j k h g = common_type j k h g
binary_type b.Rem j k h g = common_type j k h g
binary_type b.Add j k h g = common_type j k h g
binary_type b.Sub j k h g = common_type j k h g
binary_type b.Shl j k h g = promoted_type j h
binary_type b.Shr j k h g = promoted_type j h
binary_type b.Lt j k h g = refl
binary_type b.Gt j k h g = refl
binary_type b.Le j k h g = refl
binary_type b.Ge j k h g = refl
binary_type b.Eq j k h g = refl
binary_type b.Ne j k h g = refl
binary_type b.And j k h g = common_type j k h g
binary_type b.Xor j k h g = common_type j k h g
binary_type b.Or j k h g = common_type j k h g
binary_type b.LogAnd j k h g = refl
binary_type b.LogOr j k h g = refl
