-- What it is for a program to have been given its times, and for the report to name its loops.
use Rattle.std.specs.Prelude.{◌≡◌, ℕ, ◌-◌, ◌*◌, ◌<◌, ◌==◌, List, [], ◌∷◌, ◌++◌, map, Option, Some, None, Vec}
use Rattle.std.specs.declared.alloc.Global.{Global}
use Rattle.std.specs.declared.cmp.Ordering.{Ordering}
use Rattle.std.specs.declared.cmp.Ordering.TheVariants.{Less, Greater}
use Rattle.std.specs.Ordering.{is_lt, nat_cmp, ordering_then}
use Rattle.std.specs.List.{All, sum_by, filter}
use Rattle.std.specs.List.Sorted.{IsPermutation, IsSortedBy}
use Rattle.hls_base.specs.declared.settings.Units.{Units}
use Rattle.ir_core.specs.declared.body.Body.{Body}
use Rattle.ir_core.specs.declared.cfg.Block.{Block}
use Rattle.ir_core.specs.declared.cfg.Loop.{Loop}
use Rattle.ir_core.specs.declared.cfg.Memory.{Memory}
use Rattle.ir_core.specs.declared.cfg.Node.{Node}
use Rattle.ir_core.specs.declared.cfg.Node.TheVariants as n
use Rattle.ir_core.specs.declared.stamp.Untimed.{Untimed}
use Rattle.ir_core.specs.declared.timing.UnitClass.{UnitClass}
use Rattle.ir_core.specs.declared.timing.UnitClass.TheVariants as u
use Rattle.ir_core.specs.declared.timed.Timed.{Timed}
use Rattle.dep_graph.specs.declared.edge.Edge.{Edge}
use Rattle.dep_graph.specs.Dependences.{edges_of}
use Rattle.unit_binding.specs.declared.bind.Request.{Request}
use Rattle.unit_binding.specs.declared.binding.Binding.{Binding}
use Rattle.unit_binding.specs.Binding.{IsBoundBy}
use Rattle.block_schedule.specs.Schedules.{IsScheduled}
use Rattle.modulo_loop.specs.declared.pipeline.Pipelined.{Pipelined}
use Rattle.modulo_loop.specs.Lowest.{HasLeastInterval}
use Rattle.cycle_report.specs.declared.report.Edge4.{Edge4}
use Rattle.cycle_report.specs.PlainReport.{PlainLoop}
use Rattle.report_rows.specs.Points.{point_order}

-- the edges of a body within one iteration
abbrev pub edges_within : Body Untimed → List Edge
edges_within body = filter (λ edge. edge.distance == 0) (edges_of body)

-- an edge as the report prints it
abbrev pub printed_edge : Edge → Edge4
printed_edge edge = record { from = edge.from; to = edge.to; latency = edge.latency; distance = edge.distance }

abbrev pub printed_cycle : Option (Vec Edge Global) → List Edge4
printed_cycle None = []
printed_cycle (Some edges) = map printed_edge edges.items

abbrev pub loop_row : Pipelined → PlainLoop
loop_row made = record {
  point = made.region.point;
  ii = made.region.ii;
  exit = made.region.exit;
  cycle = printed_cycle made.lower;
}

-- ---- what the cycle of a loop shows

-- each edge begins where the one before it ends
abbrev pub Leads : ℕ → List Edge4 → ℕ → Type 0
Leads a [] b = a ≡ b
Leads a (edge ∷ edges) b = (edge.from ≡ a) × Leads edge.to edges b

-- At interval 1 there is no cycle. Above it the edges lead back to where they begin, and ask for more cycles than an interval one less would give.
pub record ShowsLeast (row : PlainLoop) : Type 0 where
  pub none : row.ii ≡ 1 → row.cycle ≡ []
  pub closed : (a : ℕ) × Leads a row.cycle a
  pub too_long : 1 < row.ii → (row.ii - 1) * sum_by (λ e. e.distance) row.cycle < sum_by (λ e. e.latency) row.cycle

-- ---- nodes with times

-- multipliers, then dividers, each by their width, then the ports of each array
abbrev pub class_order : UnitClass → UnitClass → Ordering
class_order (u.Multiplier x) (u.Multiplier y) = nat_cmp x y
class_order (u.Multiplier x) (u.Divider y) = Less
class_order (u.Multiplier x) (u.Port y) = Less
class_order (u.Divider x) (u.Multiplier y) = Greater
class_order (u.Divider x) (u.Divider y) = nat_cmp x y
class_order (u.Divider x) (u.Port y) = Less
class_order (u.Port x) (u.Multiplier y) = Greater
class_order (u.Port x) (u.Divider y) = Greater
class_order (u.Port x) (u.Port y) = nat_cmp x.0 y.0

-- requests for units are served by class, then by the time at which they could start, then by number
abbrev pub request_order : Request → Request → Ordering
request_order p q =
    ordering_then (class_order p.class q.class)
    (ordering_then (nat_cmp p.time q.time) (ordering_then (nat_cmp p.op q.op) (nat_cmp p.occupancy q.occupancy)))

module _ (memories : List Memory) (units : Units) where
  -- a block keeps its edges within the iteration, and the order of its units
  abbrev pub IsTimedBlock : Block Untimed → Block Timed → Type 0
  IsTimedBlock block timed =
      (binding : Binding) × (IsBoundBy request_order block.body memories (edges_within block.body) units binding
      × IsScheduled block (edges_within block.body) binding timed)

  -- a loop keeps all its edges, and the order of its units, at the least interval; the report has its row
  abbrev pub IsTimedLoop : Loop Untimed → Loop Timed → PlainLoop → Type 0
  IsTimedLoop region timed row =
      (binding : Binding) × ((made : Pipelined) × (IsBoundBy request_order region.body memories (edges_of region.body) units binding
      × HasLeastInterval region (edges_of region.body) binding made
      × (timed ≡ made.region)
      × (row ≡ loop_row made)))

  -- a block has no row, and a loop has one
  abbrev pub IsTimedNode : Node Untimed → Node Timed → List PlainLoop → Type 0
  IsTimedNode (n.Plain block) (n.Plain timed) rows = IsTimedBlock block timed × (rows ≡ [])
  IsTimedNode (n.Plain block) (n.Looped timed) rows = ⊥
  IsTimedNode (n.Looped region) (n.Plain timed) rows = ⊥
  IsTimedNode (n.Looped region) (n.Looped timed) rows = (row : PlainLoop) × ((rows ≡ row ∷ []) × IsTimedLoop region timed row)

  -- node by node, with the rows of the loops in the order of the nodes
  abbrev pub AreTimed : List (Node Untimed) → List (Node Timed) → List PlainLoop → Type 0
  AreTimed [] [] rows = rows ≡ []
  AreTimed [] (timed ∷ more) rows = ⊥
  AreTimed (node ∷ nodes) [] rows = ⊥
  AreTimed (node ∷ nodes) (timed ∷ more) rows =
      (own : List PlainLoop) × ((rest : List PlainLoop) × ((rows ≡ own ++ rest) × IsTimedNode node timed own × AreTimed nodes more rest))

-- The nodes with their times, and the rows of the loops in the order of their points.
pub record AreTimedAs (memories : List Memory) (units : Units) (nodes : List (Node Untimed)) (timed : List (Node Timed)) (rows : List PlainLoop) : Type 0 where
  pub found : List PlainLoop
  pub each : AreTimed memories units nodes timed found
  pub moved : IsPermutation found rows
  pub sorted : IsSortedBy (λ x y. is_lt (point_order x.point y.point)) rows
  pub least : All ShowsLeast rows
