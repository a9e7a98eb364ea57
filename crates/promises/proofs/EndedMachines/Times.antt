-- No node of a small program that was given times takes many cycles.
use Rattle.std.proofs.Common.{◌≡◌, ℕ, zero, suc, ◌+◌, ◌-◌, ◌^◌, ◌<◌, ◌≤◌, List, [], ◌∷◌, length, Option, Some, None, IfSome, refl, sym, subst, arith}
use Rattle.std.specs.Prelude.{slice_get, slice_index}
use Rattle.std.specs.List.{All}
use Rattle.std.proofs.lemmas.List.Elements.{All-nil, All-cons, All-head, All-tail}
use Rattle.hls_base.specs.declared.number.NodeId.{NodeId}
use Rattle.hls_base.specs.declared.settings.Units.{Units}
use Rattle.ir_core.specs.declared.body.Op.{Op}
use Rattle.ir_core.specs.declared.body.OpKind.{OpKind}
use Rattle.ir_core.specs.declared.body.OpKind.TheVariants as o
use Rattle.ir_core.specs.declared.body.Operand.{Operand}
use Rattle.ir_core.specs.declared.body.Source.{Source}
use Rattle.ir_core.specs.declared.body.Source.TheVariants as s
use Rattle.ir_core.specs.declared.cfg.Block.{Block}
use Rattle.ir_core.specs.declared.cfg.End.{End}
use Rattle.ir_core.specs.declared.cfg.End.TheVariants as e
use Rattle.ir_core.specs.declared.cfg.Loop.{Loop}
use Rattle.ir_core.specs.declared.cfg.Memory.{Memory}
use Rattle.ir_core.specs.declared.cfg.Node.{Node}
use Rattle.ir_core.specs.declared.cfg.Node.TheVariants as node
use Rattle.ir_core.specs.declared.stamp.Untimed.{Untimed}
use Rattle.ir_core.specs.Timing.{latency}
use Rattle.ir_core.specs.declared.timed.Timed.{Timed}
use Rattle.cycle_report.specs.PlainReport.{PlainLoop}
use Rattle.dep_graph.specs.declared.edge.Edge.{Edge}
use Rattle.dep_graph.specs.Dependences.{edges_of}
use Rattle.dep_graph.specs.ForwardBodies.{AreForwardOps, IsForwardBody}
use Rattle.dep_graph.proofs.ForwardEdges.{edges_forward}
use Rattle.unit_binding.proofs.Leading.{orders_forward}
use Rattle.block_schedule.specs.Schedules.{ready_at, ready, ReadyBefore, EndIsReady, IsThereBefore, IsLongEnough}
use Rattle.modulo_loop.specs.Rules.{loop_rules}
use Rattle.modulo_loop.specs.Lowest.{IsLowest, edges_of as lower_edges}
use Rattle.modulo_loop.specs.ForwardRules.{IsForwardLoop, AreForwardRules}
use Rattle.modulo_loop.proofs.LoopRules.{rules_forward}
use Rattle.modulo_loop.proofs.ForwardRules.{tight_is_low}
use Rattle.report_rows.specs.ForwardNodes.{HasForwardBody}
use Rattle.report_rows.specs.Timing.{request_order, IsTimedBlock, IsTimedLoop, IsTimedNode, AreTimed}
use Rattle.reg_binding.specs.SmallTimes.{IsEarlyLoop, IsEarlyNode}
use Rattle.source_validity.proofs.SourceMachines.SmallTimes.Serving.{by_time}
use Rattle.promises.proofs.EndedMachines.Cycles.{most, IsShort}

-- ---- when results are there

latency_low : (kind : OpKind) (bits : ℕ) → latency kind bits ≤ bits + 2
latency_low o.Mul bits = omega arith
latency_low o.Load bits = omega arith
latency_low o.Div bits = omega arith
latency_low o.Rem bits = omega arith
latency_low kind bits = omega arith

abbrev IsNarrow : Op Untimed → Type 0
IsNarrow op = op.bits ≤ 64

narrow_at : (test : Option Operand) (k : ℕ) (ops : List (Op Untimed)) (i : ℕ) → AreForwardOps test k ops → IfSome (slice_get ops i) IsNarrow
narrow_at test k [] i h = tt
narrow_at test k (op ∷ ops) zero h = h.0.narrow
narrow_at test k (op ∷ ops) (suc i) h = narrow_at test (suc k) ops i h.1

time_early : (times : List ℕ) → All (λ t. t < 2 ^ 32) times → (v : ℕ) → slice_index times v < 2 ^ 32
time_early [] h v = (let none : slice_index [] v ≡ 0 = refl in omega (arith, none))
time_early (t ∷ times) h zero = All-head (λ x. x < 2 ^ 32) t times h
time_early (t ∷ times) h (suc v) = time_early times (All-tail (λ x. x < 2 ^ 32) t times h) v

-- ---- blocks

module _ (block : Block Untimed) (times : List ℕ) (forward : IsForwardBody block.body) (early : All (λ t. t < 2 ^ 32) times) where
  abbrev ops : List (Op Untimed)
  ops = block.body.ops.items

  result_soon : (k : ℕ) (op : Option (Op Untimed)) → IfSome op IsNarrow → ready_at times k op + 1 ≤ most
  result_soon k None narrow = omega arith
  result_soon k (Some op) narrow =
      let time = time_early times early (k + 1) in
      let short = latency_low op.kind op.bits in
      omega (arith, time, short, narrow)

  ready_soon : (k : ℕ) → ready ops times k + 1 ≤ most
  ready_soon k = result_soon k (slice_get ops k) (narrow_at block.body.test 0 ops k forward.ops)

  source_soon : (x : Source) → ReadyBefore ops times x most
  source_soon (s.Result op) = ready_soon op.0
  source_soon (s.Variable v) = tt
  source_soon (s.Constant w) = tt

  cases_soon : (cases : List (Operand × NodeId)) → All (λ c. IsThereBefore ops times c.0 most) cases
  cases_soon [] = All-nil _
  cases_soon (c ∷ cases) = All-cons (λ (x : Operand × NodeId). IsThereBefore ops times x.0 most) c cases (source_soon c.0.value) (cases_soon cases)

  end_soon : (x : End) → EndIsReady ops times x most
  end_soon (e.Jump next) = tt
  end_soon (e.Branch test left right) = source_soon test.value
  end_soon (e.Choose cases other) = cases_soon cases.items
  end_soon (e.Return None) = tt
  end_soon (e.Return (Some value)) = source_soon value.value

  long_enough : IsLongEnough block times most
  long_enough = record { some = omega arith; ops = λ k lt. (let soon = ready_soon k in omega (arith, soon)); ends = end_soon block.end }

block_short : (memories : List Memory) (units : Units) (block : Block Untimed) (timed : Block Timed) → IsForwardBody block.body → IsTimedBlock memories units block timed → timed.length ≤ most
block_short memories units block timed forward (binding, (bound, (times, is))) = is.shortest most (long_enough block times forward is.early)

-- ---- loops

interval_low : (nodes ii : ℕ) (rules : List Edge) (lower : Option (List Edge)) → nodes ≤ 2 ^ 25 → AreForwardRules nodes rules → IsLowest rules ii lower → ii ≤ 2 ^ 32
interval_low nodes ii rules None few go lowest = omega (arith, lowest)
interval_low nodes ii rules (Some cycle) few go lowest =
    let low = tight_is_low nodes rules go (ii - 1) cycle lowest.1 in
    let above = lowest.0 in
    omega (arith, low, above, few)

loop_short : (memories : List Memory) (units : Units) (region : Loop Untimed) (timed : Loop Timed) (row : PlainLoop) → IsForwardLoop region.body → IsEarlyLoop timed → IsTimedLoop memories units region timed row
    → (timed.ii ≤ most) × (timed.exit + 2 ≤ most)
loop_short memories units region timed row forward early (binding, (made, (bound, (times, is), same, shown))) =
    let body = region.body in
    let edges = edges_of body in
    let leads = edges_forward body forward.forward in
    let ordered = orders_forward request_order by_time body memories edges units binding forward.forward leads bound in
    let go = rules_forward body edges binding.orders.items forward refl leads ordered in
    let small = forward.forward.small in
    let low = interval_low (length body.ops.items + 1) made.region.ii (loop_rules body edges binding.orders.items) (lower_edges made.lower) (omega (arith, small)) go is.lowest in
    let exit = early.exit in
    (subst (λ (x : Loop Timed). x.ii ≤ most) (sym same) (omega (arith, low)), omega (arith, exit))

-- ---- nodes

module _ (memories : List Memory) (units : Units) where
  node_short : (n : Node Untimed) (t : Node Timed) (rows : List PlainLoop) → HasForwardBody n → IsEarlyNode t → IsTimedNode memories units n t rows → IsShort t
  node_short (node.Plain block) (node.Plain timed) rows forward early is = block_short memories units block timed forward is.0
  node_short (node.Plain block) (node.Looped timed) rows forward early is = absurd is
  node_short (node.Looped region) (node.Plain timed) rows forward early is = absurd is
  node_short (node.Looped region) (node.Looped timed) rows forward early is = loop_short memories units region timed is.0 forward early is.1.1

  pub nodes_short : (nodes : List (Node Untimed)) (timed : List (Node Timed)) (rows : List PlainLoop) → All HasForwardBody nodes → All IsEarlyNode timed → AreTimed memories units nodes timed rows → (i : ℕ) → IfSome (slice_get timed i) IsShort
  nodes_short nodes [] rows forward early is i = tt
  nodes_short [] (t ∷ timed) rows forward early is i = absurd is
  nodes_short (n ∷ nodes) (t ∷ timed) rows forward early (own, (rest, (split, here, there))) zero =
      node_short n t own (All-head HasForwardBody n nodes forward) (All-head IsEarlyNode t timed early) here
  nodes_short (n ∷ nodes) (t ∷ timed) rows forward early (own, (rest, (split, here, there))) (suc i) =
      nodes_short nodes timed rest (All-tail HasForwardBody n nodes forward) (All-tail IsEarlyNode t timed early) there i
