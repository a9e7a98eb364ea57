-- What each point of a timed program costs.
use Rattle.std.specs.Prelude.{◌≡◌, ℕ, ◌+◌, ◌*◌, ◌<◌, ◌≤◌, nat_lt, if◌then◌else◌, List, [], ◌∷◌, ◌++◌}
use Rattle.std.specs.List.{All, Contains, fold, sum_by, flat_map}
use Rattle.std.specs.Ordering.{is_eq}
use Rattle.hls_base.specs.declared.point.Point.{Point}
use Rattle.hls_base.specs.declared.point.PointKind.TheVariants as kind
use Rattle.hls_base.specs.Tallies.{count_in}
use Rattle.ir_core.specs.declared.cfg.Node.{Node}
use Rattle.ir_core.specs.declared.cfg.Node.TheVariants as n
use Rattle.ir_core.specs.declared.timed.Timed.{Timed}
use Rattle.cycle_report.specs.declared.report.Cost.{Cost}
use Rattle.cycle_report.specs.FormulaValue.{cycles}
use Rattle.report_rows.specs.Points.{point_order, IsBefore}

-- the End of what this point is in
abbrev pub end_of : Point → Point
end_of p = record { path = p.path; at = p.at; kind = kind.End }

abbrev pub node_point : Node Timed → Point
node_point (n.Plain block) = block.point
node_point (n.Looped region) = region.point

-- what it costs to pass this point
abbrev pub own_cost : Node Timed → ℕ
own_cost (n.Plain block) = block.length
own_cost (n.Looped region) = region.ii

abbrev pub IsAtLeastOne : Node Timed → Type 0
IsAtLeastOne node = 1 ≤ own_cost node

-- A block takes its length each time that its point is passed. A loop takes its interval for each iteration, and at its End two cycles more than its exit.
abbrev pub node_costs : Node Timed → List Cost
node_costs (n.Plain block) = record { point = block.point; cost = block.length } ∷ []
node_costs (n.Looped region) =
    record { point = region.point; cost = region.ii }
    ∷ record { point = end_of region.point; cost = region.exit + 2 } ∷ []

abbrev pub costs_of : List (Node Timed) → List Cost
costs_of nodes = flat_map node_costs nodes

-- what costs come to where each point has a weight
abbrev pub weighed : (Point → ℕ) → List Cost → ℕ
weighed weight costs = sum_by (λ c. c.cost * weight c.point) costs

-- where each point is passed once
abbrev pub once : Point → ℕ
once point = 1

-- each point stands before the points of all rows behind its own
abbrev pub Rises : List Cost → Type 0
Rises [] = Unit {0}
Rises (row ∷ rows) = All (λ later. IsBefore row.point later.point) rows × Rises rows

-- The rows of a program's formula: in the order of points, each point once, none of cost 0, and whatever the points weigh, the rows come to what the nodes come to.
pub record AreRowsOf (nodes : List (Node Timed)) (rows : List Cost) : Type 0 where
  pub rise : Rises rows
  pub positive : All (λ row. 0 < row.cost) rows
  pub sums : (weight : Point → ℕ) → weighed weight rows ≡ weighed weight (costs_of nodes)

-- a run that comes to the point of such a node takes a cycle at least, beside the first
abbrev pub EachCounts : List (Node Timed) → List Cost → Type 0
EachCounts nodes rows =
    (node : Node Timed) (tally : List (Point × ℕ)) → Contains nodes node → IsAtLeastOne node → 1 ≤ count_in tally (node_point node) → 2 ≤ cycles 1 rows tally

-- ---- the same, as it is worked out

-- a cost of 0 is left out
abbrev pub some_cost : Point → ℕ → List Cost
some_cost point cost = if nat_lt 0 cost then record { point = point; cost = cost } ∷ [] else []

abbrev pub some_costs : Node Timed → List Cost
some_costs (n.Plain block) = some_cost block.point block.length
some_costs (n.Looped region) = some_cost region.point region.ii ++ some_cost (end_of region.point) (region.exit + 2)

-- one more row, or a last row that costs more
abbrev pub last_with : Cost → Cost → List Cost
last_with last cost =
    if is_eq (point_order last.point cost.point)
    then record { point = last.point; cost = last.cost + cost.cost } ∷ []
    else last ∷ cost ∷ []

abbrev pub rows_with : List Cost → Cost → List Cost
rows_with [] cost = cost ∷ []
rows_with (last ∷ []) cost = last_with last cost
rows_with (row ∷ next ∷ rows) cost = row ∷ rows_with (next ∷ rows) cost

-- one row for each run of costs of one point, behind these rows
abbrev pub merged_behind : List Cost → List Cost → List Cost
merged_behind rows costs = fold rows_with rows costs
