-- When operations could start if there were units enough.
use Rattle.std.specs.Prelude.{ℕ, ◌<◌, ◌==◌, pos, if◌then◌else◌, List, Some, None}
use Rattle.std.specs.List.{filter_map}
use Rattle.std.specs.List.Sorted.{IsNonDecreasingBy}
use Rattle.dep_graph.specs.declared.edge.Edge.{Edge}
use Rattle.diff_solve.specs.declared.solve.Constraint.{Constraint}
use Rattle.diff_solve.specs.Times.{Solves, IsBelowAll}

abbrev pub edge_constraint : Edge → Constraint
edge_constraint e = record { from = e.from; to = e.to; weight = pos e.latency }

-- each edge within an iteration is a constraint
abbrev pub edge_constraints : List Edge → List Constraint
edge_constraints edges = filter_map (λ e. if e.distance == 0 then Some (edge_constraint e) else None) edges

-- the least times of so many nodes under the edges within an iteration
pub record AreLeastTimes (nodes : ℕ) (edges : List Edge) (times : List ℕ) : Type 0 where
  pub solves : Solves nodes (edge_constraints edges) times
  pub least : IsBelowAll nodes (edge_constraints edges) times

-- each edge leads to no lower node than those before it
abbrev pub AreSorted : List Edge → Type 0
AreSorted edges = IsNonDecreasingBy (λ (edge : Edge). edge.to) edges

-- an edge leads to a higher node, which is one of so many
abbrev pub LeadsOn : ℕ → Edge → Type 0
LeadsOn nodes edge = (edge.from < edge.to) × (edge.to < nodes)
