-- The rows of the loops, and that each node with times takes a cycle at least.
use Rattle.std.proofs.Common.{◌≡◌, ℕ, ◌+◌, ◌-◌, ◌*◌, ◌<◌, List, [], ◌∷◌, ◌++◌, map, length, get_or, take, Option, Some, None, Vec, append_assoc, append-nil, refl, sym, ap, subst, ◌∙◌, arith}
use Rattle.std.specs.declared.alloc.Global.{Global}
use Rattle.std.specs.Prelude.{◌==◌, option_to_list}
use Rattle.std.specs.Ordering.{is_lt}
use Rattle.std.specs.List.Sorted.{IsPermutation, IsSortedBy}
use Rattle.std.proofs.lemmas.List.{take_more, map-append}
use Rattle.std.proofs.lemmas.List.Sorted.{All-permutation}
use Rattle.std.specs.List.{All, filter, sum_by}
use Rattle.std.proofs.lemmas.List.Elements.{All-nil, All-cons, All-same, All-append}
use Rattle.std.proofs.lemmas.List.Sums.{sum_by-cons}
use Rattle.hls_base.specs.declared.point.Point.{Point}
use Rattle.hls_base.specs.declared.settings.Units.{Units}
use Rattle.ir_core.specs.declared.cfg.Block.{Block}
use Rattle.ir_core.specs.declared.cfg.Loop.{Loop}
use Rattle.ir_core.specs.declared.cfg.Memory.{Memory}
use Rattle.ir_core.specs.declared.cfg.Node.{Node}
use Rattle.ir_core.specs.declared.cfg.Node.TheVariants as n
use Rattle.ir_core.specs.declared.stamp.Untimed.{Untimed}
use Rattle.ir_core.specs.declared.timed.Timed.{Timed}
use Rattle.dep_graph.specs.declared.edge.Edge.{Edge}
use Rattle.dep_graph.specs.Dependences.{edges_of}
use Rattle.unit_binding.specs.Binding.{IsBoundBy}
use Rattle.unit_binding.specs.declared.binding.Binding.{Binding}
use Rattle.unit_binding.specs.declared.bind.Request.{Request}
use Rattle.std.specs.declared.cmp.Ordering.{Ordering}
use Rattle.ir_core.specs.declared.body.Body.{Body}
use Rattle.block_schedule.specs.Schedules.{IsScheduled}
use Rattle.modulo_loop.specs.declared.pipeline.Pipelined.{Pipelined}
use Rattle.modulo_loop.specs.Lowest.{Follows, total_latency, total_distance, IsLowest, HasLeastInterval, edges_of as cycle_of}
use Rattle.cycle_report.specs.declared.report.Edge4.{Edge4}
use Rattle.cycle_report.specs.declared.report.LoopRow.{LoopRow}
use Rattle.cycle_report.specs.PlainReport.{PlainLoop, loop_of}
use Rattle.report_rows.specs.Points.{point_order}
use Rattle.report_rows.specs.Costs.{IsAtLeastOne}
use Rattle.report_rows.proofs.ServingOrder.{serving, serving_is}
use Rattle.report_rows.specs.Timing.{request_order, edges_within, loop_row, printed_edge, printed_cycle, Leads, ShowsLeast, IsTimedBlock, IsTimedLoop, IsTimedNode, AreTimed, AreTimedAs}

leads : (a : ℕ) (edges : List Edge) (b : ℕ) → Follows a edges b → Leads a (map printed_edge edges) b
leads a [] b h = h
leads a (edge ∷ edges) b h = (h.0, leads edge.to edges b h.1)

latencies : (edges : List Edge) → sum_by (λ e. e.latency) (map printed_edge edges) ≡ total_latency edges
latencies [] = refl
latencies (edge ∷ edges) =
    omega (arith, sum_by-cons (λ (e : Edge4). e.latency) (printed_edge edge) (map printed_edge edges), sum_by-cons (λ (e : Edge). e.latency) edge edges, latencies edges)

distances : (edges : List Edge) → sum_by (λ e. e.distance) (map printed_edge edges) ≡ total_distance edges
distances [] = refl
distances (edge ∷ edges) =
    omega (arith, sum_by-cons (λ (e : Edge4). e.distance) (printed_edge edge) (map printed_edge edges), sum_by-cons (λ (e : Edge). e.distance) edge edges, distances edges)

too_long : (ii d l x y : ℕ) → x ≡ d → y ≡ l → ii * d < l → ii * x < y
too_long ii d l x y p q h = rw (p, q) h

least_shown : (point : Point) (ii exit : ℕ) (lower : Option (Vec Edge Global)) (rules : List Edge) → IsLowest rules ii (cycle_of lower)
    → ShowsLeast (record { point = point; ii = ii; exit = exit; cycle = printed_cycle lower })
least_shown point ii exit None rules h = record {
  none = λ e. refl;
  closed = (0, refl);
  too_long = λ p. absurd (omega (arith, h));
}
least_shown point ii exit (Some cycle) rules h = record {
  none = λ e. absurd (omega (arith, h.0));
  closed = (h.1.closed.0, leads h.1.closed.0 cycle.items h.1.closed.0 h.1.closed.1);
  too_long = λ p. too_long (ii - 1) (total_distance cycle.items) (total_latency cycle.items) (sum_by (λ e. e.distance) (map printed_edge cycle.items)) (sum_by (λ e. e.latency) (map printed_edge cycle.items))
      (distances cycle.items) (latencies cycle.items) h.1.positive;
}

module _ (memories : List Memory) (units : Units) where
  loop_least : (region : Loop Untimed) (timed : Loop Timed) (row : PlainLoop) → IsTimedLoop memories units region timed row → ShowsLeast row
  loop_least region timed row (binding, (made, (bound, (times, is), same, e))) =
      rw e (least_shown made.region.point made.region.ii made.region.exit made.lower _ is.lowest)

  node_least : (node : Node Untimed) (timed : Node Timed) (rows : List PlainLoop) → IsTimedNode memories units node timed rows → All ShowsLeast rows
  node_least (n.Plain block) (n.Plain timed) rows h = All-same ShowsLeast rows [] h.1 (All-nil ShowsLeast)
  node_least (n.Plain block) (n.Looped timed) rows h = absurd h
  node_least (n.Looped region) (n.Plain timed) rows h = absurd h
  node_least (n.Looped region) (n.Looped timed) rows (row, (e, h)) =
      All-same ShowsLeast rows (row ∷ []) e (All-cons ShowsLeast row [] (loop_least region timed row h) (All-nil ShowsLeast))

  pub rows_least : (nodes : List (Node Untimed)) (timed : List (Node Timed)) (rows : List PlainLoop) → AreTimed memories units nodes timed rows → All ShowsLeast rows
  rows_least [] [] rows h = All-same ShowsLeast rows [] h (All-nil ShowsLeast)
  rows_least [] (timed ∷ more) rows h = absurd h
  rows_least (node ∷ nodes) [] rows h = absurd h
  rows_least (node ∷ nodes) (timed ∷ more) rows (own, (rest, (e, one, others))) =
      All-same ShowsLeast rows (own ++ rest) e (All-append ShowsLeast own rest (node_least node timed own one) (rows_least nodes more rest others))

  pub one_more : (nodes : List (Node Untimed)) (timed : List (Node Timed)) (rows : List PlainLoop) (node : Node Untimed) (made : Node Timed) (own : List PlainLoop)
      → AreTimed memories units nodes timed rows → IsTimedNode memories units node made own
      → AreTimed memories units (nodes ++ node ∷ []) (timed ++ made ∷ []) (rows ++ own)
  one_more [] [] rows node made own h one = (own, ([], (rw (h) (sym (append-nil own)), one, refl)))
  one_more [] (timed ∷ more) rows node made own h one = absurd h
  one_more (first ∷ nodes) [] rows node made own h one = absurd h
  one_more (first ∷ nodes) (timed ∷ more) rows node made own (front, (rest, (e, f, others))) one =
      (front, (rest ++ own, (rw (e) (append_assoc front rest own), f, one_more nodes more rest node made own others one)))

  node_counts : (node : Node Untimed) (timed : Node Timed) (rows : List PlainLoop) → IsTimedNode memories units node timed rows → IsAtLeastOne timed
  node_counts (n.Plain block) (n.Plain timed) rows ((binding, (bound, (times, is))), e) = is.long_enough.some
  node_counts (n.Plain block) (n.Looped timed) rows h = absurd h
  node_counts (n.Looped region) (n.Plain timed) rows h = absurd h
  node_counts (n.Looped region) (n.Looped timed) rows (row, (e, (binding, (made, (bound, (times, is), same, r))))) = rw same is.positive

  pub all_count : (nodes : List (Node Untimed)) (timed : List (Node Timed)) (rows : List PlainLoop) → AreTimed memories units nodes timed rows → All IsAtLeastOne timed
  all_count [] [] rows h = All-nil IsAtLeastOne
  all_count [] (timed ∷ more) rows h = absurd h
  all_count (node ∷ nodes) [] rows h = absurd h
  all_count (node ∷ nodes) (timed ∷ more) rows (own, (rest, (e, one, others))) =
      All-cons IsAtLeastOne timed more (node_counts node timed own one) (all_count nodes more rest others)

  pub block_timed : (block : Block Untimed) (timed : Block Timed) (all within : List Edge) (binding : Binding)
      → all ≡ edges_of block.body → within ≡ filter (λ edge. edge.distance == 0) all
      → IsBoundBy request_order block.body memories within units binding → IsScheduled block within binding timed → IsTimedBlock memories units block timed
  block_timed block timed all within binding p q bound is =
      let e : within ≡ edges_within block.body = q ∙ ap (λ (edges : List Edge). filter (λ (edge : Edge). edge.distance == 0) edges) p in
      let Bound : List Edge → Type 0 = λ edges. IsBoundBy request_order block.body memories edges units binding in
      let Is : List Edge → Type 0 = λ edges. IsScheduled block edges binding timed in
      (binding, (subst Bound e bound, subst Is e is))

  pub loop_timed : (region : Loop Untimed) (made : Pipelined) (row : PlainLoop) (all : List Edge) (binding : Binding)
      → all ≡ edges_of region.body → IsBoundBy request_order region.body memories all units binding → HasLeastInterval region all binding made → row ≡ loop_row made
      → IsTimedLoop memories units region made.region row
  loop_timed region made row all binding e bound is r =
      let Bound : List Edge → Type 0 = λ edges. IsBoundBy request_order region.body memories edges units binding in
      let Is : List Edge → Type 0 = λ edges. HasLeastInterval region edges binding made in
      (binding, (made, (subst Bound e bound, subst Is e is, refl, r)))

row_is : (made : Pipelined) (point : Point) (cycle : List Edge4) → point ≡ made.region.point → cycle ≡ printed_cycle made.lower
    → ◌≡◌ {A = PlainLoop} (record { point = point; ii = made.region.ii; exit = made.region.exit; cycle = cycle }) (loop_row made)
row_is made point cycle e f = λ i. record { point = e i; ii = made.region.ii; exit = made.region.exit; cycle = f i }

module _ (memories : List Memory) (units : Units) where
  served : (body : Body Untimed) (edges : List Edge) (binding : Binding) → IsBoundBy serving body memories edges units binding → IsBoundBy request_order body memories edges units binding
  served body edges binding bound =
      let By : (Request → Request → Ordering) → Type 0 = λ order. IsBoundBy order body memories edges units binding in
      subst By serving_is bound

  pub loop_made : (region : Loop Untimed) (made : Pipelined) (point : Point) (cycle : List Edge4) (all edges : List Edge) (binding : Binding)
      → all ≡ edges_of region.body → edges ≡ all → IsBoundBy serving region.body memories edges units binding → HasLeastInterval region edges binding made
      → point ≡ made.region.point → cycle ≡ printed_cycle made.lower
      → IsTimedLoop memories units region made.region (record { point = point; ii = made.region.ii; exit = made.region.exit; cycle = cycle })
  loop_made region made point cycle all edges binding p q bound is e f =
      loop_timed memories units region made (record { point = point; ii = made.region.ii; exit = made.region.exit; cycle = cycle }) edges binding (q ∙ p) (served region.body edges binding bound) is (row_is made point cycle e f)

  pub block_made : (block : Block Untimed) (timed : Block Timed) (all within edges : List Edge) (binding : Binding)
      → all ≡ edges_of block.body → within ≡ filter (λ edge. edge.distance == 0) all → edges ≡ within
      → IsBoundBy serving block.body memories edges units binding → IsScheduled block edges binding timed → IsTimedBlock memories units block timed
  block_made block timed all within edges binding p q r bound is = block_timed memories units block timed all edges binding p (r ∙ q) (served block.body edges binding bound) is

  pub next_node : (nodes : List (Node Untimed)) (i : ℕ) (timed longer : List (Node Timed)) (loops more : List LoopRow) (node : Node Untimed) (made : Node Timed) (row : Option LoopRow)
      → i < length nodes → node ≡ get_or nodes i node
      → AreTimed memories units (take i nodes) timed (map loop_of loops) → IsTimedNode memories units node made (map loop_of (option_to_list row))
      → longer ≡ timed ++ made ∷ [] → more ≡ loops ++ option_to_list row
      → AreTimed memories units (take (i + 1) nodes) longer (map loop_of more)
  next_node nodes i timed longer loops more node made row l e h one p q =
      let now : take (i + 1) nodes ≡ take i nodes ++ node ∷ [] = take_more nodes i node l ∙ ap (λ (x : Node Untimed). take i nodes ++ x ∷ []) (sym e) in
      let rows : map loop_of more ≡ map loop_of loops ++ map loop_of (option_to_list row) = ap (map loop_of) q ∙ map-append loop_of loops (option_to_list row) in
      rw (now, p, rows) (one_more memories units (take i nodes) timed (map loop_of loops) node made (map loop_of (option_to_list row)) h one)

  pub nodes_timed : (nodes : List (Node Untimed)) (timed : List (Node Timed)) (found rows : List PlainLoop)
      → AreTimed memories units nodes timed found → IsPermutation found rows → IsSortedBy (λ x y. is_lt (point_order x.point y.point)) rows
      → AreTimedAs memories units nodes timed rows
  nodes_timed nodes timed found rows each moved sorted = record {
    found = found;
    each = each;
    moved = moved;
    sorted = sorted;
    least = All-permutation ShowsLeast found rows moved (rows_least memories units nodes timed found each);
  }
