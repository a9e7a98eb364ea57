-- The types that C gives operators.
use Rattle.std.specs.Prelude.{◌&&◌, nat_lt}
use Rattle.std.proofs.Common.{◌≡◌, Bool, true, false, refl, ap, if◌then◌else◌}
use Rattle.c_token.specs.declared.ctype.CType.{CType}
use Rattle.c_token.specs.declared.ctype.CType.TheVariants as type
use Rattle.c_tree.specs.declared.operator.Binary.TheVariants as b
use Rattle.c_value.specs.Values.{int_type, promoted, wider, common}
use Rattle.valid_trees.specs.ValidLowering.{OperatorsAreProper}

-- an integer type of 32 bits at least
abbrev IsHigh : CType → Type 0
IsHigh type.Bool = ⊥
IsHigh (type.Int signed bits) = nat_lt bits 32 ≡ false

promoted_high : (k : CType) → IsHigh (promoted k)
promoted_high type.Bool = refl
promoted_high (type.Int signed bits) = by (nat_lt bits 32) refl where
  by : (c : Bool) → nat_lt bits 32 ≡ c → IsHigh (if c then int_type else type.Int signed bits)
  by true e = refl
  by false e = e

high_stays : (k : CType) → IsHigh k → promoted k ≡ k
high_stays type.Bool h = absurd h
high_stays (type.Int signed bits) h = ap (λ c. if c then int_type else type.Int signed bits) h

wider_high : (j k : CType) → IsHigh j → IsHigh k → IsHigh (wider j k)
wider_high type.Bool k h g = absurd h
wider_high (type.Int s m) type.Bool h g = absurd g
wider_high (type.Int s m) (type.Int t n) h g = by (nat_lt m n) (nat_lt n m) where
  by : (c d : Bool) → IsHigh (if c then type.Int t n else (if d then type.Int s m else type.Int (s && t) m))
  by true d = g
  by false true = h
  by false false = h

promoted_stays : (k : CType) → promoted (promoted k) ≡ promoted k
promoted_stays k = high_stays (promoted k) (promoted_high k)

common_stays : (j k : CType) → promoted (common j k) ≡ common j k
common_stays j k = high_stays (common j k) (wider_high (promoted j) (promoted k) (promoted_high j) (promoted_high k))

pub proper : OperatorsAreProper
proper b.Mul left right = common_stays left right
proper b.Div left right = common_stays left right
proper b.Rem left right = common_stays left right
proper b.Shl left right = promoted_stays left
proper b.Shr left right = promoted_stays left
proper b.Add left right = tt
proper b.Sub left right = tt
proper b.Lt left right = tt
proper b.Gt left right = tt
proper b.Le left right = tt
proper b.Ge left right = tt
proper b.Eq left right = tt
proper b.Ne left right = tt
proper b.And left right = tt
proper b.Xor left right = tt
proper b.Or left right = tt
proper b.LogAnd left right = tt
proper b.LogOr left right = tt
