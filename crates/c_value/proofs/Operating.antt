-- What the operators' definitions say of groups of operators.
use Rattle.std.proofs.Common.{◌≡◌, ◌≢◌, ℤ, refl}
use Rattle.c_token.specs.declared.ctype.CType.{CType}
use Rattle.c_tree.specs.declared.operator.Binary.{Binary}
use Rattle.c_tree.specs.declared.operator.Binary.TheVariants as b
use Rattle.c_value.specs.Values.{common, convert}
use Rattle.c_value.specs.Operators.{Computed, balanced, binary_value}
use Rattle.c_value.specs.Constant.{then_compute, operated}

-- all others bring their operands to their common type
pub in_common : (op : Binary) (left : CType) (x : ℤ) (right : CType) (y : ℤ) → op ≢ b.Shl → op ≢ b.Shr → op ≢ b.LogAnd → op ≢ b.LogOr
    → binary_value op left x right y ≡ balanced op (common left right) (convert (common left right) x) (convert (common left right) y)
in_common b.Mul left x right y sl sr la lo = refl
in_common b.Div left x right y sl sr la lo = refl
in_common b.Rem left x right y sl sr la lo = refl
in_common b.Add left x right y sl sr la lo = refl
in_common b.Sub left x right y sl sr la lo = refl
in_common b.Shl left x right y sl sr la lo = absurd (sl refl)
in_common b.Shr left x right y sl sr la lo = absurd (sr refl)
in_common b.Lt left x right y sl sr la lo = refl
in_common b.Gt left x right y sl sr la lo = refl
in_common b.Le left x right y sl sr la lo = refl
in_common b.Ge left x right y sl sr la lo = refl
in_common b.Eq left x right y sl sr la lo = refl
in_common b.Ne left x right y sl sr la lo = refl
in_common b.And left x right y sl sr la lo = refl
in_common b.Xor left x right y sl sr la lo = refl
in_common b.Or left x right y sl sr la lo = refl
in_common b.LogAnd left x right y sl sr la lo = absurd (la refl)
in_common b.LogOr left x right y sl sr la lo = absurd (lo refl)

-- `&&` and `||` take the truth of the second operand where the first one leaves it open, and all other operators take its number
pub others : (op : Binary) (left : CType) (x : ℤ) (right : CType) (second : Computed) → op ≢ b.LogAnd → op ≢ b.LogOr → operated op left x right second ≡ then_compute second (binary_value op left x right)
others b.Mul left x right second la lo = refl
others b.Div left x right second la lo = refl
others b.Rem left x right second la lo = refl
others b.Add left x right second la lo = refl
others b.Sub left x right second la lo = refl
others b.Shl left x right second la lo = refl
others b.Shr left x right second la lo = refl
others b.Lt left x right second la lo = refl
others b.Gt left x right second la lo = refl
others b.Le left x right second la lo = refl
others b.Ge left x right second la lo = refl
others b.Eq left x right second la lo = refl
others b.Ne left x right second la lo = refl
others b.And left x right second la lo = refl
others b.Xor left x right second la lo = refl
others b.Or left x right second la lo = refl
others b.LogAnd left x right second la lo = absurd (la refl)
others b.LogOr left x right second la lo = absurd (lo refl)
