-- Where the search for the least interval ends.
use Rattle.std.proofs.Common.{◌≡◌, ℕ, ◌+◌, ◌-◌, ◌*◌, ◌<◌, ◌≤◌, ◌⊎◌, inl, inr, zero, suc, Option, Some, None, List, [], ◌∷◌, length, refl, sym, ap, subst, ◌∙◌, max, slice_index_or, Bool, true, false, ltb-true, ltb-false, arith}
use Rattle.std.specs.Prelude.{nat_lt, slice_get}
use Rattle.std.specs.List.{All}
use Rattle.std.proofs.lemmas.List.Elements.{All-head, All-tail}
use Rattle.std.proofs.lemmas.List.Sums.{sum_by-cons}
use Rattle.hls_base.specs.declared.settings.Units.{Units}
use Rattle.ir_core.specs.declared.cfg.Loop.{Loop}
use Rattle.ir_core.specs.declared.cfg.Memory.{Memory}
use Rattle.ir_core.specs.declared.cfg.Node.{Node}
use Rattle.ir_core.specs.declared.cfg.Node.TheVariants as node
use Rattle.ir_core.specs.declared.stamp.Untimed.{Untimed}
use Rattle.ir_core.specs.declared.timed.Timed.{Timed}
use Rattle.dep_graph.specs.declared.edge.Edge.{Edge}
use Rattle.dep_graph.specs.Dependences.{edges_of}
use Rattle.cycle_report.specs.PlainReport.{PlainLoop}
use Rattle.report_rows.specs.Timing.{request_order, IsTimedLoop, IsTimedNode, AreTimed}
use Rattle.ir_core.specs.Bodies.{Shapes}
use Rattle.ir_core.specs.FlatRuns.{shapes_of}
use Rattle.clock_runs.specs.Premises.{Each, IsSoundLoop, IsSoundNode}
use Rattle.clock_runs.specs.IntervalBounds.Bounds.{all_latencies}
use Rattle.clock_runs.proofs.IntervalBounds.Numbers.{some_same, no_some}
use Rattle.clock_runs.proofs.IntervalBounds.Rules.{rules_forward}
use Rattle.clock_runs.proofs.IntervalBounds.Nodes.{rules_inside}
use Rattle.clock_runs.proofs.IntervalBounds.Sums.{rules_total}
use Rattle.clock_runs.proofs.IntervalBounds.Serving.{served_by_time}
use Rattle.clock_runs.proofs.IntervalBounds.Sound.{sound_forward}
use Rattle.modulo_loop.specs.Rules.{loop_rules}
use Rattle.modulo_loop.specs.Lowest.{IsStart, Follows, IsLowest, total_latency, total_distance, edges_of as lower_edges}
use Rattle.clock_runs.specs.IntervalBounds.Forward.{GoForward}
use Rattle.clock_runs.specs.IntervalBounds.{ForwardRulesHaveAnInterval, RulesToLaterNodesGoForward, TooTightIntervalsAreLow, TooTightCyclesLeadOn, LeastIntervalsAreBounded, SoundLoopsGoForward, SoundLoopsHaveAnInterval, SoundIntervalsAreBounded}
use Rattle.clock_runs.proofs.IntervalBounds.Times.{time_by, time_latest, time_first, all_kept, listed, listed_early, listed_solves, IsKept}

pub interval_exists : ForwardRulesHaveAnInterval
interval_exists nodes rules ii below (rank, go) enough =
    let time : ℕ → ℕ = time_by rank rules in
    (listed time nodes, (listed_solves time nodes rules ii below (time_first rank rules go) (all_kept rank rules go ii enough), listed_early time nodes (total_latency rules) (time_latest rank rules go)))

pub later_is_forward : RulesToLaterNodesGoForward
later_is_forward rules all = ((λ node. node), record { first = refl; forward = all })

-- along edges that are kept, times rise by the latencies, but for an interval for each iteration
along : (time : ℕ → ℕ) (ii : ℕ) (edges : List Edge) → All (IsKept time ii) edges → (a b : ℕ) → Follows a edges b → time a + total_latency edges ≤ time b + ii * total_distance edges
along time ii [] kept a b same = (let e : time a ≡ time b = ap time same in omega arith)
along time ii (e ∷ edges) kept a b (here, rest) =
    let first = All-head (IsKept time ii) e edges kept in
    let later = along time ii edges (All-tail (IsKept time ii) e edges kept) e.to b rest in
    let begins : time e.from ≡ time a = ap time here in
    let latencies = sum_by-cons (λ (x : Edge). x.latency) e edges in
    let distances = sum_by-cons (λ (x : Edge). x.distance) e edges in
    let split : ii * (e.distance + total_distance edges) ≡ ii * e.distance + ii * total_distance edges = grind arith in
    let whole : ii * total_distance (e ∷ edges) ≡ ii * (e.distance + total_distance edges) = ap (λ d. ii * d) distances in
    omega (arith, first, later, begins, latencies, split, whole)

-- an edge from the beginning of the iteration is kept
start_kept : (time : ℕ → ℕ) (ii : ℕ) (e : Edge) → time 0 ≡ 0 → IsStart e → IsKept time ii e
start_kept time ii e first (from, latency, distance, why) = (let begins : time e.from ≡ time 0 = ap time from in omega arith)

no_distance : (a d : ℕ) → d ≡ 0 → a * d ≡ 0
no_distance a d none = ap (λ x. a * x) none ∙ (let z : a * 0 ≡ 0 = grind arith in z)

either : (a b : ℕ) → (b < a) ⊎ (a ≤ b)
either a b = by_test (nat_lt b a) refl
  where
    by_test : (t : Bool) → nat_lt b a ≡ t → (b < a) ⊎ (a ≤ b)
    by_test true e = inl (ltb-true b a e)
    by_test false e = inr (let z = ltb-false b a e in omega arith)

pub tight_is_low : TooTightIntervalsAreLow
tight_is_low rules ii cycle (rank, go) tight = elim (either (total_latency rules) ii) [
  | inl lt ↦ lt
  | inr enough ↦
      (let time : ℕ → ℕ = time_by rank rules in
      let first = time_first rank rules go in
      let kept : All (IsKept time ii) cycle = (λ k d lt. elim (tight.known k d lt) [ inl there ↦ all_kept rank rules go ii enough (slice_index_or cycle k d) there | inr start ↦ start_kept time ii (slice_index_or cycle k d) first start ]) in
      let round = along time ii cycle kept tight.closed.0 tight.closed.0 tight.closed.1 in
      let positive = tight.positive in
      absurd (omega arith))
]

-- a cycle within an iteration would be too tight for each interval
pub tight_leads_on : TooTightCyclesLeadOn
tight_leads_on rules ii cycle go tight = elim (either (total_distance cycle) 0) [
  | inl some ↦ some
  | inr none ↦
      (let positive = tight.positive in
      let within : total_distance cycle ≡ 0 = omega arith in
      let here : ii * total_distance cycle ≡ 0 = no_distance ii (total_distance cycle) within in
      let there : total_latency rules * total_distance cycle ≡ 0 = no_distance (total_latency rules) (total_distance cycle) within in
      absurd (let low = tight_is_low rules (total_latency rules) cycle go (record { known = tight.known; closed = tight.closed; positive = omega arith }) in omega arith))
]

lowest_bounded : (rules : List Edge) (ii : ℕ) (lower : Option (List Edge)) → GoForward rules → IsLowest rules ii lower → ii ≤ max 1 (total_latency rules)
lowest_bounded rules ii None go lowest = omega arith
lowest_bounded rules ii (Some cycle) go lowest = (let low = tight_is_low rules (ii - 1) cycle go lowest.1 in let above = lowest.0 in omega arith)

pub least_is_bounded : LeastIntervalsAreBounded
least_is_bounded region edges binding made (times, is) go =
    lowest_bounded (loop_rules region.body edges binding.orders.items) made.region.ii (lower_edges made.lower) go is.lowest

-- ---- sound loops

pub sound_go_forward : SoundLoopsGoForward
sound_go_forward shapes memories units region binding sound bound =
    rules_forward request_order served_by_time region.body memories units binding (sound_forward shapes region sound) bound

pub sound_interval : SoundLoopsHaveAnInterval
sound_interval shapes memories units region binding ii sound bound enough =
    let rules : List Edge = loop_rules region.body (edges_of region.body) binding.orders.items in
    let sum : total_latency rules ≡ all_latencies memories region.body = rules_total request_order region.body memories units binding bound in
    let inside = rules_inside request_order region.body memories units binding (sound_forward shapes region sound) bound in
    let found = interval_exists (length region.body.ops.items + 1) rules ii inside (sound_go_forward shapes memories units region binding sound bound) (omega arith) in
    (found.0, (found.1.0, subst (λ n. All (λ time. time ≤ n) found.0) sum found.1.1))

-- the nodes of a program and their times
module _ (shapes : Shapes) (memories : List Memory) (units : Units) where
  loop_bounded : (region : Loop Untimed) (timed : Loop Timed) (row : PlainLoop) → IsSoundLoop shapes region → IsTimedLoop memories units region timed row → timed.ii ≤ max 1 (all_latencies memories region.body)
  loop_bounded region timed row sound (binding, (made, (bound, least, is, shown))) =
      let sum = rules_total request_order region.body memories units binding bound in
      let low = least_is_bounded region (edges_of region.body) binding made least (sound_go_forward shapes memories units region binding sound bound) in
      let own : made.region.ii ≤ max 1 (all_latencies memories region.body) = subst (λ n. made.region.ii ≤ max 1 n) sum low in
      subst (λ (l : Loop Timed). l.ii ≤ max 1 (all_latencies memories region.body)) (sym is) own

  node_bounded : (n : Node Untimed) (t : Node Timed) (rows : List PlainLoop) (region : Loop Untimed) (made : Loop Timed) → IsSoundNode shapes n → IsTimedNode memories units n t rows → n ≡ node.Looped region → t ≡ node.Looped made
      → made.ii ≤ max 1 (all_latencies memories region.body)
  node_bounded (node.Plain block) t rows region made sound timed e f = (cc)
  node_bounded (node.Looped l) (node.Plain block) rows region made sound timed e f = (cc)
  node_bounded (node.Looped l) (node.Looped m) rows region made sound timed e f =
      let first : l ≡ region = (cc) in
      let second : m ≡ made = (cc) in
      let own = loop_bounded l m timed.0 sound timed.1.1 in
      subst (λ (x : Loop Timed). x.ii ≤ max 1 (all_latencies memories region.body)) second (subst (λ (x : Loop Untimed). m.ii ≤ max 1 (all_latencies memories x.body)) first own)

  nodes_bounded : (nodes : List (Node Untimed)) (timed : List (Node Timed)) (rows : List PlainLoop) → Each (IsSoundNode shapes) nodes → AreTimed memories units nodes timed rows
      → (i : ℕ) (region : Loop Untimed) (made : Loop Timed) → slice_get nodes i ≡ Some (node.Looped region) → slice_get timed i ≡ Some (node.Looped made) → made.ii ≤ max 1 (all_latencies memories region.body)
  nodes_bounded [] timed rows sound times i region made e f = absurd (no_some e)
  nodes_bounded (n ∷ nodes) [] rows sound times i region made e f = absurd (no_some f)
  nodes_bounded (n ∷ nodes) (t ∷ timed) rows sound (own, (rest, (split, here, there))) zero region made e f = node_bounded n t own region made sound.0 here (some_same e) (some_same f)
  nodes_bounded (n ∷ nodes) (t ∷ timed) rows sound (own, (rest, (split, here, there))) (suc i) region made e f = nodes_bounded nodes timed rest sound.1 there i region made e f

pub sound_bounded : SoundIntervalsAreBounded
sound_bounded units cfg timed rows times sound =
    nodes_bounded (shapes_of cfg.frame) cfg.frame.memories.items units cfg.nodes.items timed.nodes.items times.found sound.nodes times.each
