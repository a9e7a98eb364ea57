-- Constants of this iteration, and of one long before.
use Rattle.std.specs.Prelude.{◌≡◌, ℕ, true, List, [], refl}
use Rattle.std.proofs.Common.{arith}
use Rattle.ir_core.specs.declared.body.Op.{Op}
use Rattle.ir_core.specs.declared.body.Operand.{Operand}
use Rattle.ir_core.specs.declared.body.Source.TheVariants as source
use Rattle.ir_core.specs.declared.stamp.Untimed.{Untimed}
use Rattle.dep_graph.specs.ForwardBodies.{IsForwardOperand}
use Rattle.program_validity.specs.Operands.{is_operand}
use Rattle.source_validity.specs.SourceMachines.ForwardPrograms.NearConstants.{HasNearConstant}

abbrev constant : ℕ → Operand
constant distance = record { value = source.Constant 7; distance = distance }

abbrev none_before : List (Op Untimed)
none_before = []

own_is_near : HasNearConstant (constant 0)
own_is_near = omega arith

-- a valid operand may be of 65,537 iterations before, where it names a constant
far_is_valid : is_operand [] [] none_before 32 (constant 65537) ≡ true
far_is_valid = refl

far_is_not_forward : IsForwardOperand 0 (constant 65537) → ⊥
far_is_not_forward h = let near = h.near in omega (arith, near)
