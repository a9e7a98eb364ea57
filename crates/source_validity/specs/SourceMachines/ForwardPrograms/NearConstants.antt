-- How far back operands that name constants go: a constant is the same in each iteration, so a valid program may give its operand any distance.
use Rattle.std.specs.Prelude.{◌≡◌, ℕ, ◌≤◌, List, slice_get, Option, Some, IfSome}
use Rattle.std.specs.List.{All}
use Rattle.ir_core.specs.declared.body.Op.{Op}
use Rattle.ir_core.specs.declared.body.Operand.{Operand}
use Rattle.ir_core.specs.declared.body.Source.{Source}
use Rattle.ir_core.specs.declared.body.Source.TheVariants as source
use Rattle.ir_core.specs.declared.cfg.Cfg.{Cfg}
use Rattle.ir_core.specs.declared.cfg.Node.{Node}
use Rattle.ir_core.specs.declared.stamp.Untimed.{Untimed}
use Rattle.program_validity.specs.Programs.{body_in}

-- a constant, of at most 65,536 iterations before, or no constant
abbrev pub IsNearConstant : Source → ℕ → Type 0
IsNearConstant (source.Constant word) distance = distance ≤ 65536
IsNearConstant s distance = Unit {0}

abbrev pub HasNearConstant : Operand → Type 0
HasNearConstant x = IsNearConstant x.value x.distance

-- the arguments and the guard of an operation
pub record HaveNearConstants (args : List Operand) (guard : Option Operand) : Type 0 where
  pub each : All HasNearConstant args
  pub guarded : IfSome guard HasNearConstant

-- The constants that operations read are near.
abbrev pub ConstantsAreNear : Cfg Untimed → Type 0
ConstantsAreNear cfg = (i k : ℕ) (n : Node Untimed) (op : Op Untimed) → slice_get cfg.nodes.items i ≡ Some n → slice_get (body_in n).ops.items k ≡ Some op → HaveNearConstants op.args.items op.guard
