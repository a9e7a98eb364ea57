-- Nodes in an order in which the edges within an iteration, and the orders of units, lead on.
use Rattle.std.specs.Prelude.{◌≡◌, ℕ, ◌+◌, ◌<◌, ◌^◌, List, [], ◌∷◌}
use Rattle.std.specs.List.{All}
use Rattle.dep_graph.specs.declared.edge.Edge.{Edge}
use Rattle.unit_binding.specs.declared.binding.UnitOrder.{UnitOrder}

-- the keys of these operations rise
abbrev pub RiseBy : (ℕ → ℕ) → List ℕ → Type 0
RiseBy key [] = Unit {0}
RiseBy key (op ∷ []) = Unit {0}
RiseBy key (op ∷ next ∷ ops) = (key op < key next) × RiseBy key (next ∷ ops)

-- the beginning of the iteration has the least rank, edges within it lead to nodes of greater ranks, and so does each unit from one operation to the next
pub record LeadOnBy (rank : ℕ → ℕ) (edges : List Edge) (orders : List UnitOrder) : Type 0 where
  pub first : rank 0 ≡ 0
  pub each_edge : All (λ (edge : Edge). edge.distance ≡ 0 → rank edge.from < rank edge.to) edges
  pub each_order : All (λ (order : UnitOrder). RiseBy (λ op. rank (op + 1)) order.ops.items) orders

-- edges and orders lead on if there are such ranks
abbrev pub LeadOn : List Edge → List UnitOrder → Type 0
LeadOn edges orders = (rank : ℕ → ℕ) × LeadOnBy rank edges orders

-- an order of operations below this number, each of which holds the unit for few cycles
pub record IsOrderWithin (ops : ℕ) (order : UnitOrder) : Type 0 where
  pub inside : All (λ op. op < ops) order.ops.items
  pub short : order.occupancy < 2 ^ 7

-- the orders of the units of a body
pub record AreForwardOrders (ops : ℕ) (edges : List Edge) (orders : List UnitOrder) : Type 0 where
  pub leading : LeadOn edges orders
  pub within : All (IsOrderWithin ops) orders
