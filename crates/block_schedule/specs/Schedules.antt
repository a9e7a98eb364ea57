-- What the least times of a block and its least length are.
use Rattle.std.specs.Prelude.{◌≡◌, ℕ, ◌+◌, ◌<◌, ◌≤◌, ◌^◌, List, length, slice_index, slice_get, Option, None, Some}
use Rattle.std.specs.List.{All}
use Rattle.ir_core.specs.declared.body.Op.{Op}
use Rattle.ir_core.specs.declared.body.Operand.{Operand}
use Rattle.ir_core.specs.declared.body.Source.{Source}
use Rattle.ir_core.specs.declared.body.Source.TheVariants as s
use Rattle.ir_core.specs.declared.cfg.Block.{Block}
use Rattle.ir_core.specs.declared.cfg.End.{End}
use Rattle.ir_core.specs.declared.cfg.End.TheVariants as e
use Rattle.ir_core.specs.declared.stamp.Untimed.{Untimed}
use Rattle.ir_core.specs.declared.timed.Timed.{Timed}
use Rattle.dep_graph.specs.declared.edge.Edge.{Edge}
use Rattle.unit_binding.specs.declared.binding.Binding.{Binding}
use Rattle.ir_core.specs.Timing.{latency}
use Rattle.diff_solve.specs.Times.{Solves, IsBelowAll}
use Rattle.unit_binding.specs.Copies.{IsTimedBody, IsEndCopy}
use Rattle.block_schedule.specs.Constraints.{block_constraints}

-- the cycle from which a result is there, where operation k starts at the time of node k + 1
abbrev pub ready_at : List ℕ → ℕ → Option (Op Untimed) → ℕ
ready_at times k None = 0
ready_at times k (Some op) = slice_index times (k + 1) + latency op.kind op.bits

abbrev pub ready : List (Op Untimed) → List ℕ → ℕ → ℕ
ready ops times k = ready_at times k (slice_get ops k)

abbrev pub ReadyBefore : List (Op Untimed) → List ℕ → Source → ℕ → Type 0
ReadyBefore ops times (s.Result op) len = ready ops times op.0 + 1 ≤ len
ReadyBefore ops times (s.Variable v) len = Unit {0}
ReadyBefore ops times (s.Constant v) len = Unit {0}

-- an operand is there one cycle before the block of this length ends
abbrev pub IsThereBefore : List (Op Untimed) → List ℕ → Operand → ℕ → Type 0
IsThereBefore ops times operand len = ReadyBefore ops times operand.value len

-- what the end uses is there one cycle before
abbrev pub EndIsReady : List (Op Untimed) → List ℕ → End → ℕ → Type 0
EndIsReady ops times (e.Jump next) len = Unit {0}
EndIsReady ops times (e.Branch test left right) len = IsThereBefore ops times test len
EndIsReady ops times (e.Choose cases other) len = All (λ c. IsThereBefore ops times c.0 len) cases.items
EndIsReady ops times (e.Return None) len = Unit {0}
EndIsReady ops times (e.Return (Some value)) len = IsThereBefore ops times value len

-- so many cycles are enough for the block
pub record IsLongEnough (block : Block Untimed) (times : List ℕ) (len : ℕ) : Type 0 where
  pub some : 1 ≤ len
  pub ops : (k : ℕ) → k < length block.body.ops.items → ready block.body.ops.items times k ≤ len
  pub ends : EndIsReady block.body.ops.items times block.end len

-- the block with the least times under its edges and the orders of its units, and the least length for them
pub record IsSchedule (block : Block Untimed) (edges : List Edge) (binding : Binding) (timed : Block Timed) (times : List ℕ) : Type 0 where
  pub solves : Solves (length block.body.ops.items + 1) (block_constraints edges binding.orders.items) times
  pub least : IsBelowAll (length block.body.ops.items + 1) (block_constraints edges binding.orders.items) times
  pub early : All (λ t. t < 2 ^ 32) times
  pub body : IsTimedBody times binding.unit_of.items block.body timed.body
  pub ends : IsEndCopy block.end timed.end
  pub point : timed.point ≡ block.point
  pub long_enough : IsLongEnough block times timed.length
  pub shortest : (len : ℕ) → IsLongEnough block times len → timed.length ≤ len

abbrev pub IsScheduled : Block Untimed → List Edge → Binding → Block Timed → Type 0
IsScheduled block edges binding timed = (times : List ℕ) × IsSchedule block edges binding timed times
