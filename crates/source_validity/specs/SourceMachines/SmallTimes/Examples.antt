-- A valid out that is near, and one that is not.
use Rattle.std.specs.Prelude.{◌≡◌, ℕ, true, List, [], refl}
use Rattle.std.proofs.Common.{arith}
use Rattle.ir_core.specs.declared.body.Op.{Op}
use Rattle.ir_core.specs.declared.body.Operand.{Operand}
use Rattle.ir_core.specs.declared.body.Source.TheVariants as source
use Rattle.ir_core.specs.declared.stamp.Untimed.{Untimed}
use Rattle.program_validity.specs.Operands.{is_operand}
use Rattle.reg_binding.specs.SmallTimes.{IsNear}

abbrev constant : ℕ → Operand
constant distance = record { value = source.Constant 7; distance = distance }

abbrev none_before : List (Op Untimed)
none_before = []

own_is_near : IsNear (constant 0)
own_is_near = omega arith

-- a valid out may be of 65,537 iterations before, where it names a constant
far_is_valid : is_operand [] [] none_before 32 (constant 65537) ≡ true
far_is_valid = refl

far_is_not_near : IsNear (constant 65537) → ⊥
far_is_not_near h = omega (arith, h)
