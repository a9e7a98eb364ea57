-- Which time of a node has come, and what its operations read there.
use Rattle.std.specs.Prelude.{ℕ, zero, suc, ◌/◌, ◌%◌, ◌==◌, ◌&&◌, ◌||◌, nat_le, Bool, true, not, List, map, find, Option, Some, None}
use Rattle.hls_base.specs.declared.number.OpId.{OpId}
use Rattle.ir_core.specs.declared.body.Operand.{Operand}
use Rattle.ir_core.specs.declared.body.Source.{Source}
use Rattle.ir_core.specs.declared.body.Source.TheVariants as source
use Rattle.reg_binding.specs.declared.registers.Held.{Held}
use Rattle.dep_graph.specs.Dependences.{maker_of}
use Rattle.clock_ir.specs.Flows.{place, ready}
use Rattle.datapath.specs.Plans.{Plan, Placed, body_at, span}
use Rattle.datapath.specs.Cycles.{Time, Active, Passed, Variable, Value, Cycle, holds}

-- ---- times

-- the node is under way, and it is this time of a block, or of the iterations of a loop, whether or not there is one
abbrev pub at : Plan → Cycle → ℕ → ℕ → Bool
at p c i t = holds c (Active i) && (nat_le (span p i) 1 || (c.regs Time == t % span p i))

abbrev pub has_passed : Cycle → ℕ → Bool
has_passed c zero = true
has_passed c (suc n) = holds c (Passed (suc n))

-- the same, from the first iteration on
abbrev pub at_iteration : Plan → Cycle → ℕ → ℕ → Bool
at_iteration p c i t = at p c i t && has_passed c (t / span p i)

-- ---- operands

abbrev pub is_place : ℕ → ℕ → ℕ → Held → Bool
is_place i op j h = (h.node.0 == i) && ((h.op.0 == op) && (h.place == j))

abbrev pub held_by : Cycle → Option Held → ℕ
held_by c None = 0
held_by c (Some h) = c.regs (Value h.register)

-- what the register holds that has place j of the results of an operation of node i
abbrev pub result_at : Plan → Cycle → ℕ → ℕ → ℕ → ℕ
result_at p c i op j = held_by c (find (is_place i op j) p.held)

abbrev pub read_from : Cycle → Source → ℕ
read_from c (source.Constant word) = word
read_from c (source.Variable v) = c.regs (Variable v.0)
read_from c (source.Result op) = 0

abbrev pub read_by : Plan → Cycle → ℕ → ℕ → Operand → Option OpId → ℕ
read_by p c i t x None = read_from c x.value
read_by p c i t x (Some op) = result_at p c i op.0 (place (body_at p i).interval (ready (body_at p i) op) t x.distance)

-- what an operand has at time t of node i
abbrev pub operand : Plan → Cycle → ℕ → ℕ → Operand → ℕ
operand p c i t x = read_by p c i t x (maker_of (body_at p i).outs x)

abbrev pub is_true : Plan → Cycle → ℕ → ℕ → Option Operand → Bool
is_true p c i t None = true
is_true p c i t (Some x) = not (operand p c i t x == 0)

-- ---- operations

abbrev pub is_starting : Plan → Cycle → Placed → Bool
is_starting p c x = at p c x.node x.op.start

abbrev pub arguments : Plan → Cycle → Placed → List ℕ
arguments p c x = map (operand p c x.node x.op.start) x.op.op.args

-- its guard, if it has one, is not 0
abbrev pub is_allowed : Plan → Cycle → Placed → Bool
is_allowed p c x = is_true p c x.node x.op.start x.op.op.guard
