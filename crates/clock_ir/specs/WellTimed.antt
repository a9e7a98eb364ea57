-- What it is for the times of a program to keep all that its operations wait for, and for no unit to be held twice in one cycle.
use Rattle.std.specs.Prelude.{◌≡◌, ◌≢◌, ℕ, ◌+◌, ◌*◌, ◌^◌, ◌<◌, ◌≤◌, List, [], ◌∷◌, slice_index, slice_get, Option, Some, None}
use Rattle.std.specs.List.{All, Contains}
use Rattle.ir_core.specs.declared.body.Op.{Op}
use Rattle.ir_core.specs.declared.cfg.Block.{Block}
use Rattle.ir_core.specs.declared.cfg.Cfg.{Cfg}
use Rattle.ir_core.specs.declared.cfg.Loop.{Loop}
use Rattle.ir_core.specs.declared.cfg.Memory.{Memory}
use Rattle.ir_core.specs.declared.cfg.Node.{Node}
use Rattle.ir_core.specs.declared.cfg.Node.TheVariants as node
use Rattle.ir_core.specs.declared.stamp.Untimed.{Untimed}
use Rattle.ir_core.specs.declared.timing.UnitClass.{UnitClass}
use Rattle.ir_core.specs.Timing.{occupancy, unit_class}
use Rattle.ir_core.specs.declared.timed.Timed.{Timed}
use Rattle.dep_graph.specs.declared.edge.Edge.{Edge}
use Rattle.dep_graph.specs.Dependences.{edges_of}
use Rattle.unit_binding.specs.Copies.{IsTimedBody, IsEndCopy}
use Rattle.ir_core.specs.FlatRuns.{shapes_of}
use Rattle.block_schedule.specs.Schedules.{IsLongEnough}
use Rattle.modulo_loop.specs.Rules.{known_first, known_rules}
use Rattle.modulo_loop.specs.Lowest.{CanLeave}

-- where operation k starts at the time of node k + 1, and an iteration begins each `interval` cycles
abbrev pub Keeps : List ℕ → ℕ → Edge → Type 0
Keeps times interval e = slice_index times e.from + e.latency ≤ slice_index times e.to + interval * e.distance

-- ---- units

abbrev pub class_in : List Memory → Option (Op Untimed) → Option UnitClass
class_in memories None = None
class_in memories (Some op) = unit_class op.kind op.bits op.array memories

abbrev pub occupancy_in : Option (Op Untimed) → ℕ
occupancy_in None = 0
occupancy_in (Some op) = occupancy op.kind op.bits

-- two operations of a body that take the same unit
pub record ShareUnit (memories : List Memory) (ops : List (Op Untimed)) (units : List ℕ) (k n : ℕ) : Type 0 where
  pub class : UnitClass
  pub first : class_in memories (slice_get ops k) ≡ Some class
  pub second : class_in memories (slice_get ops n) ≡ Some class
  pub unit : slice_index units k ≡ slice_index units n
  pub differ : k ≢ n

-- a unit is free again when the next operation takes it
abbrev pub TakeTurns : List Memory → List (Op Untimed) → List ℕ → List ℕ → Type 0
TakeTurns memories ops times units =
    (k n : ℕ) → ShareUnit memories ops units k n → slice_index times (k + 1) ≤ slice_index times (n + 1) →
    slice_index times (k + 1) + occupancy_in (slice_get ops k) ≤ slice_index times (n + 1)

-- and when the next iteration does
pub record TakeTurnsAgain (memories : List Memory) (ops : List (Op Untimed)) (times units : List ℕ) (interval : ℕ) : Type 0 where
  pub others : (k n : ℕ) → ShareUnit memories ops units k n → slice_index times (k + 1) ≤ slice_index times (n + 1) →
      slice_index times (n + 1) + occupancy_in (slice_get ops n) ≤ slice_index times (k + 1) + interval
  pub own : (k : ℕ) (class : UnitClass) → class_in memories (slice_get ops k) ≡ Some class → occupancy_in (slice_get ops k) ≤ interval

-- ---- blocks and loops

pub record IsWellTimedBlock (memories : List Memory) (block : Block Untimed) (timed : Block Timed) (times units : List ℕ) : Type 0 where
  pub body : IsTimedBody times units block.body timed.body
  pub ends : IsEndCopy block.end timed.end
  pub point : timed.point ≡ block.point
  pub begins : slice_index times 0 ≡ 0
  pub early : All (λ t. t < 2 ^ 32) times
  pub waits : (e : Edge) → Contains (edges_of block.body) e → e.distance ≡ 0 → Keeps times 0 e
  pub turns : TakeTurns memories block.body.ops.items times units
  pub long_enough : IsLongEnough block times timed.length

-- Also the test is known before the next iteration begins, no later than the exit, and at the exit all stores are done and all values there that are handed on.
pub record IsWellTimedLoop (memories : List Memory) (region : Loop Untimed) (timed : Loop Timed) (times units : List ℕ) : Type 0 where
  pub body : IsTimedBody times units region.body timed.body
  pub point : timed.point ≡ region.point
  pub next : timed.next ≡ region.next
  pub begins : slice_index times 0 ≡ 0
  pub positive : 1 ≤ timed.ii
  pub early : All (λ t. t < 2 ^ 32) times
  pub waits : All (Keeps times timed.ii) (edges_of region.body)
  pub known : All (Keeps times timed.ii) (known_rules region.body.ops.items (known_first region.body.outs.items region.body.test))
  pub turns : TakeTurns memories region.body.ops.items times units
  pub turns_again : TakeTurnsAgain memories region.body.ops.items times units timed.ii
  pub can_leave : CanLeave region.body times timed.ii timed.exit

-- ---- programs

abbrev pub IsWellTimedNode : List Memory → Node Untimed → Node Timed → Type 0
IsWellTimedNode memories (node.Plain block) (node.Plain timed) = (times : List ℕ) × ((units : List ℕ) × IsWellTimedBlock memories block timed times units)
IsWellTimedNode memories (node.Looped region) (node.Looped timed) = (times : List ℕ) × ((units : List ℕ) × IsWellTimedLoop memories region timed times units)
IsWellTimedNode memories (node.Plain block) (node.Looped timed) = ⊥
IsWellTimedNode memories (node.Looped region) (node.Plain timed) = ⊥

abbrev pub AreWellTimed : List Memory → List (Node Untimed) → List (Node Timed) → Type 0
AreWellTimed memories [] [] = Unit {0}
AreWellTimed memories [] (t ∷ ts) = ⊥
AreWellTimed memories (n ∷ ns) [] = ⊥
AreWellTimed memories (n ∷ ns) (t ∷ ts) = IsWellTimedNode memories n t × AreWellTimed memories ns ts

-- the program with these times: variables have the same widths, and memories the same lengths
pub record IsWellTimed (cfg : Cfg Untimed) (timed : Cfg Timed) : Type 0 where
  pub frame : shapes_of timed.frame ≡ shapes_of cfg.frame
  pub first : timed.first ≡ cfg.first
  pub nodes : AreWellTimed cfg.frame.memories.items cfg.nodes.items timed.nodes.items
