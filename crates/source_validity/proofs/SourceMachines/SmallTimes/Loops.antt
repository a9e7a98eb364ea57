-- The operations of a loop that has the least times at its least interval start early, and the loop is left early.
use Rattle.std.proofs.Common.{ℕ, zero, suc, ◌+◌, ◌-◌, ◌*◌, ◌<◌, ◌≤◌, ◌^◌, List, [], ◌∷◌, length, refl, sym, subst, arith}
use Rattle.std.specs.Prelude.{slice_get, Option, Some, None}
use Rattle.hls_base.specs.declared.number.OpId.{OpId}
use Rattle.hls_base.specs.declared.settings.Units.{Units}
use Rattle.ir_core.specs.declared.body.Body.{Body}
use Rattle.ir_core.specs.declared.body.Op.{Op}
use Rattle.ir_core.specs.declared.body.OpKind.{OpKind}
use Rattle.ir_core.specs.declared.body.OpKind.TheVariants as o
use Rattle.ir_core.specs.declared.body.Operand.{Operand}
use Rattle.ir_core.specs.declared.cfg.Loop.{Loop}
use Rattle.ir_core.specs.declared.cfg.Memory.{Memory}
use Rattle.ir_core.specs.declared.stamp.Untimed.{Untimed}
use Rattle.ir_core.specs.Timing.{latency}
use Rattle.ir_core.specs.declared.timed.Timed.{Timed}
use Rattle.cycle_report.specs.PlainReport.{PlainLoop}
use Rattle.dep_graph.specs.declared.edge.Edge.{Edge}
use Rattle.dep_graph.specs.Dependences.{edges_of}
use Rattle.dep_graph.specs.ForwardBodies.{AreForwardOps, IsForwardBody}
use Rattle.dep_graph.proofs.ForwardEdges.{edges_forward}
use Rattle.unit_binding.proofs.Leading.{orders_forward}
use Rattle.modulo_loop.specs.Rules.{latency_at, loop_rules, constraints_at}
use Rattle.dep_graph.specs.Offsets.{result_of}
use Rattle.dep_graph.specs.Dependences.{test_maker}
use Rattle.modulo_loop.specs.Lowest.{IsLowest, known_at, IsReadyBy, CanLeave, edges_of as lower_edges}
use Rattle.modulo_loop.specs.ForwardRules.{IsForwardLoop, AreForwardRules}
use Rattle.modulo_loop.proofs.LoopRules.{rules_forward}
use Rattle.modulo_loop.proofs.ForwardRules.{rules_in_range, rules_short, tight_is_low}
use Rattle.modulo_loop.proofs.Gaps.{no_gaps}
use Rattle.report_rows.specs.Timing.{request_order, IsTimedLoop}
use Rattle.reg_binding.specs.SmallTimes.{IsEarlyLoop}
use Rattle.source_validity.specs.SourceMachines.SmallTimes.NearOuts.{HasNearOuts}
use Rattle.source_validity.proofs.SourceMachines.SmallTimes.Serving.{by_time}
use Rattle.source_validity.proofs.SourceMachines.SmallTimes.Copies.{AreWithin, within_all, body_early}

-- ---- latencies

latency_low : (kind : OpKind) (bits : ℕ) → latency kind bits ≤ bits + 2
latency_low o.Mul bits = omega arith
latency_low o.Load bits = omega arith
latency_low o.Div bits = omega arith
latency_low o.Rem bits = omega arith
latency_low kind bits = omega arith

latency_short : (test : Option Operand) (k : ℕ) (ops : List (Op Untimed)) (i : ℕ) → AreForwardOps test k ops → latency_at (slice_get ops i) ≤ 127
latency_short test k [] i h = omega arith
latency_short test k (op ∷ ops) zero h = (let narrow = h.0.narrow in let low = latency_low op.kind op.bits in omega (arith, narrow, low))
latency_short test k (op ∷ ops) (suc i) h = latency_short test (suc k) ops i h.1

-- ---- the exit

module _ (nodes : ℕ) (times : List ℕ) (within : AreWithin nodes times) (body : Body Untimed) (forward : IsForwardBody body) where
  known_early : (p : Option OpId) → known_at body.ops.items times p ≤ 127 * nodes
  known_early None = omega arith
  known_early (Some op) = (let time = within (op.0 + 1) in let short = latency_short body.test 0 body.ops.items op.0 forward.ops in omega (arith, time, short))

  out_early : (ii : ℕ) (p : Option OpId) → IsReadyBy (127 * nodes + ii) body.ops.items times p
  out_early ii None = tt
  out_early ii (Some op) = (let time = within (op.0 + 1) in let short = latency_short body.test 0 body.ops.items op.0 forward.ops in omega (arith, time, short))

  -- behind the cycles of all nodes the loop can be left
  can_leave : (ii : ℕ) → CanLeave body times ii (127 * nodes)
  can_leave ii = record {
    test = known_early (test_maker body.test);
    stores = λ k op at store. (let time = within (k + 1) in omega (arith, time));
    outs = λ i d lt. out_early ii (result_of _);
  }

-- ---- the interval

interval_low : (nodes ii : ℕ) (rules : List Edge) (lower : Option (List Edge)) → nodes ≤ 2 ^ 25 → AreForwardRules nodes rules → IsLowest rules ii lower → ii < 2 ^ 32
interval_low nodes ii rules None few go lowest = omega (arith, lowest)
interval_low nodes ii rules (Some cycle) few go lowest =
    let low = tight_is_low nodes rules go (ii - 1) cycle lowest.1 in
    let above = lowest.0 in
    omega (arith, low, above, few)

-- ---- the loop

pub loop_early : (memories : List Memory) (units : Units) (region : Loop Untimed) (timed : Loop Timed) (row : PlainLoop) → IsForwardLoop region.body → HasNearOuts region.body → IsTimedLoop memories units region timed row → IsEarlyLoop timed
loop_early memories units region timed row forward near (binding, (made, (bound, (times, is), same, shown))) =
    let body = region.body in
    let nodes = length body.ops.items + 1 in
    let edges = edges_of body in
    let ii : ℕ = made.region.ii in
    let rules = loop_rules body edges binding.orders.items in
    let leads = edges_forward body forward.forward in
    let ordered = orders_forward request_order by_time body memories edges units binding forward.forward leads bound in
    let go = rules_forward body edges binding.orders.items forward refl leads ordered in
    let small = forward.forward.small in
    let few : nodes ≤ 2 ^ 25 = omega (arith, small) in
    let low = interval_low nodes ii rules (lower_edges made.lower) few go is.lowest in
    let early = no_gaps 127 nodes times (omega arith) (constraints_at ii rules) (rules_in_range nodes ii rules go.within low) (rules_short nodes ii rules go.within low) is.solved.solves is.solved.least in
    let within : AreWithin nodes times = within_all nodes times (omega arith) early in
    let left = is.no_sooner (127 * nodes) (can_leave nodes times within body forward.forward ii) in
    subst IsEarlyLoop (sym same) (record {
      body = body_early nodes times binding.unit_of.items few within body made.region.body forward.forward near is.body;
      exit = omega (arith, left, few);
    })
