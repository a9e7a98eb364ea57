-- The constraints of a block.
use Rattle.std.specs.Prelude.{ℕ, ◌+◌, List, [], ◌∷◌, ◌++◌, pos}
use Rattle.dep_graph.specs.declared.edge.Edge.{Edge}
use Rattle.diff_solve.specs.declared.solve.Constraint.{Constraint}
use Rattle.unit_binding.specs.declared.binding.UnitOrder.{UnitOrder}
use Rattle.unit_binding.specs.Times.{edge_constraints}

-- operation k is node k + 1
abbrev pub serves_next : ℕ → ℕ → ℕ → Constraint
serves_next occupancy before after = record { from = before + 1; to = after + 1; weight = pos occupancy }

-- a unit serves each operation as soon as it is done with the one before
abbrev pub order_constraints : ℕ → List ℕ → List Constraint
order_constraints occupancy [] = []
order_constraints occupancy (op ∷ []) = []
order_constraints occupancy (op ∷ next ∷ ops) = serves_next occupancy op next ∷ order_constraints occupancy (next ∷ ops)

abbrev pub unit_constraints : List UnitOrder → List Constraint
unit_constraints [] = []
unit_constraints (o ∷ os) = order_constraints o.occupancy o.ops.items ++ unit_constraints os

abbrev pub block_constraints : List Edge → List UnitOrder → List Constraint
block_constraints edges orders = edge_constraints edges ++ unit_constraints orders
