-- The nodes of a program with small times, and when their results and tests are there.
use Rattle.std.proofs.Common.{◌≡◌, ℕ, zero, suc, ◌+◌, ◌^◌, ◌≤◌, List, [], ◌∷◌, map, subst, arith}
use Rattle.std.specs.Prelude.{slice_get, Option, Some, None}
use Rattle.std.specs.List.{All}
use Rattle.std.proofs.lemmas.List.Elements.{All-head, All-tail}
use Rattle.std.proofs.lemmas.Option.{slice_get_within, get_or_from_slice_get}
use Rattle.hls_base.specs.declared.number.OpId.{OpId}
use Rattle.ir_core.specs.declared.body.Op.{Op}
use Rattle.ir_core.specs.declared.body.OpKind.{OpKind}
use Rattle.ir_core.specs.declared.body.OpKind.TheVariants as o
use Rattle.ir_core.specs.declared.cfg.Cfg.{Cfg}
use Rattle.ir_core.specs.declared.cfg.Node.{Node}
use Rattle.ir_core.specs.declared.cfg.Node.TheVariants as node
use Rattle.ir_core.specs.Timing as timing
use Rattle.ir_core.specs.declared.timed.Timed.{Timed}
use Rattle.dep_graph.specs.Dependences.{test_maker}
use Rattle.clock_ir.specs.Flows.{timed_op, ready, ready_in, ready_if, known}
use Rattle.clock_ir.specs.ClockRuns.{timed_node}
use Rattle.reg_binding.specs.SmallTimes.{IsEarlyOp, IsEarlyNode}
use Rattle.datapath.specs.Plans.{body_of}
use Rattle.circuit_context.specs.Programs.{IsBuildable}

pub early_node : (cfg : Cfg Timed) (i : ℕ) (n : Node Timed) → IsBuildable cfg → slice_get cfg.nodes.items i ≡ Some n → IsEarlyNode n
early_node cfg i n it at = subst IsEarlyNode (get_or_from_slice_get cfg.nodes.items i n n at) (it.times.nodes i n (slice_get_within cfg.nodes.items i n at))

latency_low : (kind : OpKind) (bits : ℕ) → timing.latency kind bits ≤ bits + 2
latency_low o.Mul bits = omega arith
latency_low o.Load bits = omega arith
latency_low o.Div bits = omega arith
latency_low o.Rem bits = omega arith
latency_low kind bits = omega arith

ready_low : (ops : List (Op Timed)) (k : ℕ) → All IsEarlyOp ops → ready_in (slice_get (map timed_op ops) k) ≤ 2 ^ 32
ready_low [] k h = omega arith
ready_low (op ∷ ops) zero h =
    let early = All-head IsEarlyOp op ops h in
    omega (arith, early.start, early.narrow, latency_low op.kind op.bits)
ready_low (op ∷ ops) (suc k) h = ready_low ops k (All-tail IsEarlyOp op ops h)

-- a result is there within 2^32 cycles
pub early_result : (n : Node Timed) (op : OpId) → IsEarlyNode n → ready (body_of (timed_node n)) op ≤ 2 ^ 32
early_result (node.Plain b) op early = ready_low b.body.ops.items op.0 early.ops
early_result (node.Looped r) op early = ready_low r.body.ops.items op.0 early.body.ops

-- and so is the test of an iteration
pub early_test : (n : Node Timed) → IsEarlyNode n → known (body_of (timed_node n)) ≤ 2 ^ 32
early_test n early = at (test_maker (body_of (timed_node n)).test) where
  at : (made : Option OpId) → ready_if (body_of (timed_node n)) made ≤ 2 ^ 32
  at None = omega arith
  at (Some op) = early_result n op early
