-- The constraints of a block lead on.
use Rattle.std.proofs.Common.{◌≡◌, ℕ, ◌+◌, ◌<◌, ◌≤◌, ◌^◌, Bool, true, false, List, [], ◌∷◌, refl, eqb-true, pos, negsuc, arith}
use Rattle.std.specs.Prelude.{◌==◌, if◌then◌else◌, Some, None, ◌<ℤ◌, ◌≤ℤ◌}
use Rattle.std.specs.List.{All, cons_option}
use Rattle.std.proofs.lemmas.Int.{ints}
use Rattle.std.proofs.lemmas.List.Elements.{All-nil, All-cons, All-head, All-tail, All-append, All-weaker}
use Rattle.dep_graph.specs.declared.edge.Edge.{Edge}
use Rattle.dep_graph.specs.ForwardBodies.{IsForwardEdge}
use Rattle.diff_solve.specs.declared.solve.Constraint.{Constraint}
use Rattle.diff_solve.specs.Times.{InRange}
use Rattle.diff_solve.specs.Answers.{HasModestWeights}
use Rattle.unit_binding.specs.declared.binding.UnitOrder.{UnitOrder}
use Rattle.unit_binding.specs.Times.{edge_constraint, edge_constraints}
use Rattle.unit_binding.specs.Ranks.{RiseBy, IsOrderWithin, AreForwardOrders}
use Rattle.unit_binding.proofs.EarlyTimes.{LeadsOnBy}
use Rattle.block_schedule.specs.Constraints.{serves_next, order_constraints, unit_constraints, block_constraints}

pub order_wider : (a b : ℕ) → a ≤ b → (order : UnitOrder) → IsOrderWithin a order → IsOrderWithin b order
order_wider a b le order h = record { inside = All-weaker (λ op. op < a) (λ op. op < b) (λ op lt. omega arith) order.ops.items h.inside; short = h.short }

module _ (rank : ℕ → ℕ) (ops : ℕ) where
  -- a constraint between nodes of the block, with a weight of a latency, that leads on
  record IsGood (c : Constraint) : Type 0 where
    from : c.from < ops + 1
    to : c.to < ops + 1
    onward : rank c.from < rank c.to
    low : negsuc (2 ^ 50) <ℤ c.weight
    high : c.weight ≤ℤ pos 127

  edge_good : (e : Edge) → IsForwardEdge (ops + 1) e → rank e.from < rank e.to → IsGood (edge_constraint e)
  edge_good e h onward = record {
    from = h.from;
    to = h.to;
    onward = onward;
    low = omega (arith, ints);
    high = (let z = h.latency in omega (arith, ints, z));
  }

  one_good : (b : Bool) (e : Edge) (cs : List Constraint) → (e.distance == 0) ≡ b → IsForwardEdge (ops + 1) e → (e.distance ≡ 0 → rank e.from < rank e.to) → All IsGood cs
      → All IsGood (cons_option (if b then Some (edge_constraint e) else None) cs)
  one_good true e cs is h onward rest = All-cons IsGood (edge_constraint e) cs (edge_good e h (onward (eqb-true e.distance 0 is))) rest
  one_good false e cs is h onward rest = rest

  edges_good : (edges : List Edge) → All (IsForwardEdge (ops + 1)) edges → All (λ (e : Edge). e.distance ≡ 0 → rank e.from < rank e.to) edges → All IsGood (edge_constraints edges)
  edges_good [] h onward = All-nil IsGood
  edges_good (e ∷ es) h onward =
      one_good (e.distance == 0) e (edge_constraints es) refl (All-head (IsForwardEdge (ops + 1)) e es h) (All-head (λ (x : Edge). x.distance ≡ 0 → rank x.from < rank x.to) e es onward)
      (edges_good es (All-tail (IsForwardEdge (ops + 1)) e es h) (All-tail (λ (x : Edge). x.distance ≡ 0 → rank x.from < rank x.to) e es onward))

  order_good : (held : ℕ) (os : List ℕ) → held < 2 ^ 7 → All (λ op. op < ops) os → RiseBy (λ op. rank (op + 1)) os → All IsGood (order_constraints held os)
  order_good held [] short inside rise = All-nil IsGood
  order_good held (op ∷ []) short inside rise = All-nil IsGood
  order_good held (op ∷ next ∷ os) short inside rise =
      let rest = All-tail (λ x. x < ops) op (next ∷ os) inside in
      let before = All-head (λ x. x < ops) op (next ∷ os) inside in
      let after = All-head (λ x. x < ops) next os rest in
      All-cons IsGood (serves_next held op next) (order_constraints held (next ∷ os))
      (record { from = omega arith; to = omega arith; onward = rise.0; low = omega (arith, ints); high = omega (arith, ints, short) }) (order_good held (next ∷ os) short rest rise.1)

  units_good : (orders : List UnitOrder) → All (IsOrderWithin ops) orders → All (λ (order : UnitOrder). RiseBy (λ op. rank (op + 1)) order.ops.items) orders → All IsGood (unit_constraints orders)
  units_good [] within rise = All-nil IsGood
  units_good (order ∷ orders) within rise =
      let own = All-head (IsOrderWithin ops) order orders within in
      All-append IsGood (order_constraints order.occupancy order.ops.items) (unit_constraints orders)
      (order_good order.occupancy order.ops.items own.short own.inside (All-head (λ (x : UnitOrder). RiseBy (λ op. rank (op + 1)) x.ops.items) order orders rise))
      (units_good orders (All-tail (IsOrderWithin ops) order orders within) (All-tail (λ (x : UnitOrder). RiseBy (λ op. rank (op + 1)) x.ops.items) order orders rise))

  all_good : (edges : List Edge) (orders : List UnitOrder) → All (IsForwardEdge (ops + 1)) edges → All (IsOrderWithin ops) orders
      → All (λ (e : Edge). e.distance ≡ 0 → rank e.from < rank e.to) edges → All (λ (order : UnitOrder). RiseBy (λ op. rank (op + 1)) order.ops.items) orders → All IsGood (block_constraints edges orders)
  all_good edges orders forward within onward rise =
      All-append IsGood (edge_constraints edges) (unit_constraints orders) (edges_good edges forward onward) (units_good orders within rise)

module _ (ops : ℕ) (edges : List Edge) (orders : List UnitOrder) (forward : All (IsForwardEdge (ops + 1)) edges) (ordered : AreForwardOrders ops edges orders) where
  abbrev rank : ℕ → ℕ
  rank = ordered.leading.0

  good : All (IsGood rank ops) (block_constraints edges orders)
  good = all_good rank ops edges orders forward ordered.within ordered.leading.1.each_edge ordered.leading.1.each_order

  pub block_in_range : InRange (ops + 1) (block_constraints edges orders)
  block_in_range = All-weaker (IsGood rank ops) (λ c. (c.from < ops + 1) × (c.to < ops + 1)) (λ c h. (h.from, h.to)) (block_constraints edges orders) good

  pub block_modest : HasModestWeights (block_constraints edges orders)
  block_modest = All-weaker (IsGood rank ops) (λ c. (negsuc (2 ^ 50) <ℤ c.weight) × (c.weight ≤ℤ pos (2 ^ 20))) (λ c h. (h.low, (let z = h.high in omega (arith, ints, z)))) (block_constraints edges orders) good

  pub block_leads_on : All (LeadsOnBy rank 127) (block_constraints edges orders)
  block_leads_on = All-weaker (IsGood rank ops) (LeadsOnBy rank 127) (λ c h. record { onward = h.onward; weight = h.high }) (block_constraints edges orders) good
