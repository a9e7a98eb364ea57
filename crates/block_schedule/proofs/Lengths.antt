-- What is long enough stays so when it is made longer.
use Rattle.std.proofs.Common.{ℕ, ◌≤◌, List, None, Some, arith}
use Rattle.ir_core.specs.declared.body.Op.{Op}
use Rattle.ir_core.specs.declared.body.Operand.{Operand}
use Rattle.ir_core.specs.declared.body.Source.{Source}
use Rattle.ir_core.specs.declared.body.Source.TheVariants as s
use Rattle.ir_core.specs.declared.cfg.End.{End}
use Rattle.ir_core.specs.declared.cfg.End.TheVariants as e
use Rattle.ir_core.specs.declared.stamp.Untimed.{Untimed}
use Rattle.block_schedule.specs.Schedules.{IsThereBefore, EndIsReady, ReadyBefore}

pub source_longer : (ops : List (Op Untimed)) (times : List ℕ) (source : Source) (a b : ℕ) → a ≤ b → ReadyBefore ops times source a → ReadyBefore ops times source b
source_longer ops times (s.Result op) a b h r = omega (arith, r)
source_longer ops times (s.Variable v) a b h r = tt
source_longer ops times (s.Constant v) a b h r = tt

pub there_longer : (ops : List (Op Untimed)) (times : List ℕ) (operand : Operand) (a b : ℕ) → a ≤ b → IsThereBefore ops times operand a → IsThereBefore ops times operand b
there_longer ops times operand a b h r = source_longer ops times operand.value a b h r

pub end_longer : (ops : List (Op Untimed)) (times : List ℕ) (end_ : End) (a b : ℕ) → a ≤ b → EndIsReady ops times end_ a → EndIsReady ops times end_ b
end_longer ops times (e.Jump next) a b h r = tt
end_longer ops times (e.Branch test left right) a b h r = there_longer ops times test a b h r
end_longer ops times (e.Choose cases other) a b h r = λ i d l. source_longer ops times _ a b h (r i d l)
end_longer ops times (e.Return None) a b h r = tt
end_longer ops times (e.Return (Some value)) a b h r = there_longer ops times value a b h r
