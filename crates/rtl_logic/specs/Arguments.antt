-- The arguments that an operation's wires read, and their widths.
use Rattle.std.specs.Prelude.{◌≡◌, ◌≤◌, ◌⊎◌, ℕ, zero, suc}
use Rattle.ir_core.specs.declared.body.OpKind.{OpKind}
use Rattle.ir_core.specs.declared.body.OpKind.TheVariants as o
use Rattle.ir_core.specs.declared.body.Operand.{Operand}
use Rattle.ir_core.specs.declared.body.Simple.{Simple}
use Rattle.ir_core.specs.declared.body.Simple.TheVariants as s
use Rattle.ir_core.specs.declared.body.Source.TheVariants as source
use Rattle.rtl_core.specs.declared.design.Pair.{Pair}
use Rattle.rtl_core.specs.declared.design.Pair.TheVariants as pair
use Rattle.rtl_core.specs.ClockStep.{Widths}
use Rattle.rtl_core.specs.Valid.{HasBits, IsBetween}
use Rattle.rtl_logic.specs.declared.operations.Arguments.{Arguments}

-- an argument that is not there
abbrev pub missing : Operand
missing = record { value = source.Constant 0; distance = 0 }

-- the width of the argument with this number where it is a constant
abbrev pub constant_bits : OpKind → ℕ → ℕ → ℕ
constant_bits o.Select bits zero = 1
constant_bits o.Widen bits zero = 64
constant_bits o.Narrow bits zero = 64
constant_bits o.Widen bits (suc k) = 1
constant_bits o.Narrow bits (suc k) = 1
constant_bits kind bits k = bits

-- the operator on wires that does what a simple operator does
abbrev pub pair_of : Simple → Pair
pair_of s.Add = pair.Add
pair_of s.Sub = pair.Sub
pair_of s.And = pair.And
pair_of s.Or = pair.Or
pair_of s.Xor = pair.Xor

-- What has n bits is taken for a number of `from` bits. Where neither is below the width of the result, only the low bits count.
abbrev pub IsTakenFrom : ℕ → ℕ → ℕ → Type 0
IsTakenFrom bits n from = (n ≡ from) ⊎ ((bits ≤ n) × (bits ≤ from))

-- The arguments that an operation reads have its width; the test of a choice has one bit, and what is widened or narrowed any number of them. Operations that share units, and accesses to memories, have no wires of their own.
abbrev pub AreArguments : Widths → OpKind → ℕ → ℕ → Arguments → Type 0
AreArguments w o.Not bits from of = HasBits w bits of.first
AreArguments w o.Neg bits from of = HasBits w bits of.first
AreArguments w o.Truth bits from of = HasBits w bits of.first
AreArguments w o.Copy bits from of = HasBits w bits of.first
AreArguments w o.Widen bits from of = (n : ℕ) × HasBits w n of.first × IsBetween 1 64 n × IsTakenFrom bits n from
AreArguments w o.Narrow bits from of = (n : ℕ) × HasBits w n of.first × IsBetween 1 64 n
AreArguments w o.Select bits from of = HasBits w 1 of.first × HasBits w bits of.second × HasBits w bits of.third
AreArguments w (o.Fused pairing) bits from of = HasBits w bits of.first × HasBits w bits of.second × HasBits w bits of.third
AreArguments w o.Mul bits from of = ⊥
AreArguments w o.Div bits from of = ⊥
AreArguments w o.Rem bits from of = ⊥
AreArguments w o.Load bits from of = ⊥
AreArguments w o.Store bits from of = ⊥
AreArguments w kind bits from of = HasBits w bits of.first × HasBits w bits of.second
