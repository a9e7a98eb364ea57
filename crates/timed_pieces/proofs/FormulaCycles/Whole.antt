-- The costs of nodes come to the cycles of a run, node by node: a block at the End of a loop's point owes what the loop took when it ended.
use Rattle.std.proofs.Common.{◌≡◌, ◌≢◌, ◌∙◌, ℕ, zero, suc, ◌+◌, ◌*◌, refl, sym, ap, subst, inl, List, [], ◌++◌, length, Option, Some, None, arith}
use Rattle.std.specs.Prelude.{slice_get}
use Rattle.std.specs.List.{sum_by}
use Rattle.std.proofs.lemmas.List.Sums.{sum_by-append}
use Rattle.hls_base.specs.declared.point.Point.{Point}
use Rattle.ir_core.specs.declared.cfg.Block.{Block}
use Rattle.ir_core.specs.declared.cfg.Cfg.{Cfg}
use Rattle.ir_core.specs.declared.cfg.Loop.{Loop}
use Rattle.ir_core.specs.declared.cfg.Node.{Node}
use Rattle.ir_core.specs.declared.cfg.Node.TheVariants as node
use Rattle.ir_core.specs.declared.stamp.Untimed.{Untimed}
use Rattle.ir_layout.specs.Nodes.{node_point}
use Rattle.ir_core.specs.declared.timed.Timed.{Timed}
use Rattle.hls_base.specs.Steps.{Outcome, went, undefined, waiting, Ran, goes, after}
use Rattle.ir_core.specs.Bodies.{Shapes, Words}
use Rattle.ir_core.specs.TreeRuns.{Way, overlapped_run}
use Rattle.ir_core.specs.FlatRuns.{Going, to, ends, body_of, node_run, going_on, node_then, from_node, flat_run, shapes_of}
use Rattle.clock_ir.specs.WellTimed.{IsWellTimed, IsWellTimedNode}
use Rattle.clock_runs.specs.Laws.{node_cycles, cycles_behind, cycles_at, cycles_from}
use Rattle.clock_runs.proofs.BlockRuns.{not_waiting, not_undefined, went_parts, block_went}
use Rattle.report_rows.specs.Costs as costs
use Rattle.report_rows.specs.Costs.{costs_of, own_cost, end_of}
use Rattle.timed_pieces.specs.FormulaCycles.Ends.{targets, Among, LoopsLeadToTheirEnds}
use Rattle.timed_pieces.specs.FormulaCycles.{CostsCountRuns}
use Rattle.timed_pieces.proofs.FormulaCycles.Sums.{all_zero, only_one, stays_sum, cost_at, by_points}
use Rattle.timed_pieces.proofs.FormulaCycles.Traces.{node_stays}
use Rattle.timed_pieces.proofs.FormulaCycles.Counting.{own_at, end_at, by_node, at_same, at_other, goes_among, timed_there, untimed_there, same_points}

to_same : {i j : ℕ} → to i ≡ to j → i ≡ j
to_same e = (cc)

loop_to : (next : ℕ) (o : Outcome Words Way) (g : Going) (t1 : Words) (n1 : ℕ) → (after o (λ w t n. goes (to next) t n)).outcome ≡ went g t1 n1 → to next ≡ g
loop_to next (went w t n) g t1 n1 h = (went_parts h).0
loop_to next (undefined rule at) g t1 n1 h = absurd (not_undefined h)
loop_to next waiting g t1 n1 h = absurd (not_waiting h)

module _ (cfg : Cfg Untimed) (timed : Cfg Timed) (well : IsWellTimed cfg timed) (leads : LoopsLeadToTheirEnds cfg) where
  abbrev nodes : List (Node Untimed)
  nodes = cfg.nodes.items

  abbrev with_times : List (Node Timed)
  with_times = timed.nodes.items

  abbrev IsAt : ℕ → Node Untimed → Type 0
  IsAt i it = slice_get nodes i ≡ Some it

  abbrev cost : Point → ℕ
  cost q = cost_at (costs_of with_times) q

  abbrev ends_cost : Point → ℕ
  ends_cost q = sum_by (end_at q) with_times

  -- ---- a node's own cost

  own_of : (i : ℕ) (it : Node Untimed) (t : Node Timed) → IsAt i it → slice_get with_times i ≡ Some t → IsWellTimedNode cfg.frame.memories.items it t → sum_by (own_at (node_point it)) with_times ≡ own_cost t
  own_of i it t e there is =
      only_one (own_at (node_point it)) with_times i t there
      (λ j y at other.
      let u = untimed_there cfg.frame.memories.items nodes with_times well.nodes j y at in
      at_other (own_cost y) (costs.node_point y) (node_point it) (λ same. other (leads.apart j i u.0 it u.1.0 e (sym (same_points cfg.frame.memories.items u.0 y u.1.1) ∙ sym same))))
      ∙ at_same (own_cost t) (costs.node_point t) (node_point it) (sym (same_points cfg.frame.memories.items it t is))

  -- ---- what loops cost when they end

  abbrev NoLoopEnds : Point → Type 0
  NoLoopEnds q = (l : ℕ) (region : Loop Untimed) → IsAt l (node.Looped region) → end_of region.point ≢ q

  end_none : (q : Point) → NoLoopEnds q → (j : ℕ) (y : Node Timed) (u : Node Untimed) → IsAt j u → IsWellTimedNode cfg.frame.memories.items u y → end_at q y ≡ 0
  end_none q h j (node.Plain block) u e is = omega arith
  end_none q h j (node.Looped region) (node.Plain block) e is = absurd is
  end_none q h j (node.Looped region) (node.Looped it) e is =
      at_other (region.exit + 2) (end_of region.point) q (λ same. h j it e (ap end_of (sym is.1.1.point) ∙ sym same))

  ends_none : (q : Point) → NoLoopEnds q → ends_cost q ≡ 0
  ends_none q h = all_zero (end_at q) with_times (λ j y at. let u = untimed_there cfg.frame.memories.items nodes with_times well.nodes j y at in end_none q h j y u.0 u.1.0 u.1.1)

  -- two loops that end at one point are the same
  one_loop : (i l : ℕ) (region other : Loop Untimed) → IsAt i (node.Looped region) → IsAt l (node.Looped other) → end_of other.point ≡ end_of region.point → i ≡ l
  one_loop i l region other e at same =
      let a = leads.behind i region e in
      let b = leads.behind l other at in
      leads.alone l other at i (node.Looped region) e (inl (leads.apart region.next.0 other.next.0 (node.Plain a.0) (node.Plain b.0) a.1.0 b.1.0 (a.1.1 ∙ sym same ∙ sym b.1.1)))

  end_other : (i j : ℕ) (region : Loop Untimed) (y : Node Timed) (u : Node Untimed) → IsAt i (node.Looped region) → IsAt j u → IsWellTimedNode cfg.frame.memories.items u y → j ≢ i → end_at (end_of region.point) y ≡ 0
  end_other i j region (node.Plain block) u e at is other = omega arith
  end_other i j region (node.Looped it) (node.Plain block) e at is other = absurd is
  end_other i j region (node.Looped it) (node.Looped u) e at is other =
      at_other (it.exit + 2) (end_of it.point) (end_of region.point) (λ same. other (sym (one_loop i j region u e at (ap end_of (sym is.1.1.point) ∙ sym same))))

  ends_one : (i : ℕ) (region : Loop Untimed) (t : Loop Timed) → IsAt i (node.Looped region) → slice_get with_times i ≡ Some (node.Looped t) → IsWellTimedNode cfg.frame.memories.items (node.Looped region) (node.Looped t)
      → ends_cost (end_of region.point) ≡ t.exit + 2
  ends_one i region t e there is =
      only_one (end_at (end_of region.point)) with_times i (node.Looped t) there
      (λ j y at other. let u = untimed_there cfg.frame.memories.items nodes with_times well.nodes j y at in end_other i j region y u.0 e u.1.0 u.1.1 other)
      ∙ at_same (t.exit + 2) (end_of t.point) (end_of region.point) (ap end_of (sym is.1.1.point))

  -- ---- what is owed

  abbrev owed : Option (Node Untimed) → ℕ
  owed None = 0
  owed (Some (node.Plain block)) = ends_cost block.point
  owed (Some (node.Looped region)) = 0

  kinds_differ : {block : Block Untimed} {region : Loop Untimed} → Some (node.Plain block) ≡ Some (node.Looped region) → ⊥
  kinds_differ e = (cc)

  -- a block leads to no block that owes
  none_owed : (i : ℕ) (block : Block Untimed) (j : ℕ) (o : Option (Node Untimed)) → IsAt i (node.Plain block) → Among j (targets block.end) → slice_get nodes j ≡ o → owed o ≡ 0
  none_owed i block j None e among at = refl
  none_owed i block j (Some (node.Looped region)) e among at = refl
  none_owed i block j (Some (node.Plain b)) e among at = ends_none b.point (λ l region there same.
      let a = leads.behind l region there in
      let next : j ≡ region.next.0 = leads.apart j region.next.0 (node.Plain b) (node.Plain a.0) at a.1.0 (sym same ∙ sym a.1.1) in
      let alone : i ≡ l = leads.alone l region there i (node.Plain block) e (subst (λ z. Among z (targets block.end)) next among) in
      kinds_differ (sym e ∙ ap (slice_get nodes) alone ∙ there))

  -- no loop ends at the point of a loop
  loop_ends_none : (i : ℕ) (region : Loop Untimed) → IsAt i (node.Looped region) → NoLoopEnds region.point
  loop_ends_none i region e l other there same =
      let a = leads.behind l other there in
      let next : other.next.0 ≡ i = leads.apart other.next.0 i (node.Plain a.0) (node.Looped region) a.1.0 e (a.1.1 ∙ same) in
      kinds_differ (sym a.1.0 ∙ ap (slice_get nodes) next ∙ e)

  first_owes_none : (o : Option (Node Untimed)) → slice_get nodes cfg.first.0 ≡ o → owed o ≡ 0
  first_owes_none None at = refl
  first_owes_none (Some (node.Looped region)) at = refl
  first_owes_none (Some (node.Plain b)) at = ends_none b.point (λ l region there same.
      let a = leads.behind l region there in
      leads.first l region there (leads.apart cfg.first.0 region.next.0 (node.Plain b) (node.Plain a.0) at a.1.0 (sym same ∙ sym a.1.1)))

  -- ---- one node

  abbrev owed_by : Going → ℕ
  owed_by (to j) = owed (slice_get nodes j)
  owed_by (ends w) = 0

  block_owes : (i : ℕ) (block : Block Untimed) (g : Going) → IsAt i (node.Plain block) → ((j : ℕ) → g ≡ to j → Among j (targets block.end)) → owed_by g ≡ 0
  block_owes i block (to j) e among = none_owed i block j (slice_get nodes j) e (among j refl) refl
  block_owes i block (ends w) e among = refl

  plain_sum : (c len own ends_ points : ℕ) → points ≡ 1 → c ≡ own + ends_ → own ≡ len → c * points ≡ len * points + ends_
  plain_sum c len own ends_ points one e f = ap (λ z. c * z) one ∙ (let z : c * 1 ≡ len * 1 + ends_ = omega (arith, e, f) in z) ∙ ap (λ z. len * z + ends_) (sym one)

  loop_sum : (c ii own ends_ points : ℕ) → c ≡ own + ends_ → own ≡ ii → ends_ ≡ 0 → c * points ≡ ii * points
  loop_sum c ii own ends_ points e f g = ap (λ z. z * points) (let z : c ≡ ii = omega (arith, e, f, g) in z)

  loop_owes : (i : ℕ) (region : Loop Untimed) (t : Loop Timed) (g : Going) → IsAt i (node.Looped region) → slice_get with_times i ≡ Some (node.Looped t) → IsWellTimedNode cfg.frame.memories.items (node.Looped region) (node.Looped t)
      → to region.next.0 ≡ g → owed_by g ≡ t.exit + 2
  loop_owes i region t g e there is same =
      let a = leads.behind i region e in
      ap owed_by (sym same) ∙ ap owed a.1.0 ∙ ap ends_cost a.1.1 ∙ ends_one i region t e there is

  module _ (shapes : Shapes) where
    abbrev points_of : Node Untimed → Words → ℕ → ℕ
    points_of it t n = length (node_run shapes it t n).trace

    step_with : (i : ℕ) (it : Node Untimed) (m : Node Timed) → IsAt i it → slice_get with_times i ≡ Some m → IsWellTimedNode cfg.frame.memories.items it m
        → (t : Words) (n : ℕ) (g : Going) (t1 : Words) (n1 : ℕ) → (node_run shapes it t n).outcome ≡ went g t1 n1
        → cost (node_point it) * points_of it t n + owed_by g ≡ node_cycles (Some m) (points_of it t n) + owed (Some it)
    step_with i (node.Plain block) (node.Looped m) e there is t n g t1 n1 h = absurd is
    step_with i (node.Looped region) (node.Plain m) e there is t n g t1 n1 h = absurd is
    step_with i (node.Plain block) (node.Plain m) e there is t n g t1 n1 h =
        let b = block_went shapes block t n g t1 n1 h in
        let none = block_owes i block g e (λ j same. goes_among block.end b.ranged.words b.ranged.results j (b.goes ∙ same)) in
        omega (
          arith,
          none,
          plain_sum (cost block.point) m.length (sum_by (own_at block.point) with_times) (ends_cost block.point) (points_of (node.Plain block) t n) b.passes (by_node block.point with_times) (own_of i (node.Plain block) (node.Plain m) e there is),
        )
    step_with i (node.Looped region) (node.Looped m) e there is t n g t1 n1 h =
        let some = loop_owes i region m g e there is (loop_to region.next.0 (overlapped_run shapes region.point (body_of region.body) t n).outcome g t1 n1 h) in
        omega (
          arith,
          some,
          loop_sum (cost region.point) m.ii (sum_by (own_at region.point) with_times) (ends_cost region.point) (points_of (node.Looped region) t n) (by_node region.point with_times) (own_of i (node.Looped region) (node.Looped m) e there is) (ends_none region.point (loop_ends_none i region e)),
        )

    step : (i : ℕ) (it : Node Untimed) → IsAt i it → (t : Words) (n : ℕ) (g : Going) (t1 : Words) (n1 : ℕ) → (node_run shapes it t n).outcome ≡ went g t1 n1
        → cost (node_point it) * points_of it t n + owed_by g ≡ node_cycles (slice_get with_times i) (points_of it t n) + owed (Some it)
    step i it e t n g t1 n1 h =
        let m = timed_there cfg.frame.memories.items nodes with_times well.nodes i it e in
        step_with i it m.0 e m.1.0 m.1.1 t n g t1 n1 h ∙ ap (λ o. node_cycles o (points_of it t n) + owed (Some it)) (sym m.1.0)

    -- ---- node by node

    abbrev rest : ℕ → ℕ → Words → ℕ → Ran Words (Option ℕ)
    rest k j t n = from_node k shapes nodes j t n

    abbrev later : ℕ → ℕ → Words → ℕ → ℕ
    later k j t n = cycles_from k shapes nodes with_times j t n

    abbrev Counted : ℕ → Type 0
    Counted k = (i : ℕ) (t : Words) (n : ℕ) (word : Option ℕ) (words : Words) (left : ℕ) → (rest k i t n).outcome ≡ went word words left
        → sum_by cost (rest k i t n).trace ≡ later k i t n + owed (slice_get nodes i)

    abbrev following : ℕ → Outcome Words Going → Ran Words (Option ℕ)
    following k o = after o (λ g t1 n1. going_on (rest k) g t1 n1)

    behind : (k i : ℕ) (it : Node Untimed) (t : Words) (n : ℕ) (word : Option ℕ) (words : Words) (left : ℕ) → Counted k → IsAt i it → (o : Outcome Words Going) → (node_run shapes it t n).outcome ≡ o
        → (following k o).outcome ≡ went word words left
        → sum_by cost ((node_run shapes it t n).trace ++ (following k o).trace) ≡ (node_cycles (slice_get with_times i) (points_of it t n) + cycles_behind (later k) o) + owed (Some it)
    behind k i it t n word words left more e (undefined rule at) ran h = absurd (not_undefined h)
    behind k i it t n word words left more e waiting ran h = absurd (not_waiting h)
    behind k i it t n word words left more e (went (to j) t1 n1) ran h =
        omega (
          arith,
          sum_by-append cost (node_run shapes it t n).trace (rest k j t1 n1).trace,
          stays_sum cost (node_point it) (node_run shapes it t n).trace (node_stays shapes it t n),
          more j t1 n1 word words left h,
          step i it e t n (to j) t1 n1 ran,
        )
    behind k i it t n word words left more e (went (ends w) t1 n1) ran h =
        omega (
          arith,
          sum_by-append cost (node_run shapes it t n).trace [],
          stays_sum cost (node_point it) (node_run shapes it t n).trace (node_stays shapes it t n),
          step i it e t n (ends w) t1 n1 ran,
        )

    at : (k i : ℕ) (o : Option (Node Untimed)) (t : Words) (n : ℕ) (word : Option ℕ) (words : Words) (left : ℕ) → Counted k → slice_get nodes i ≡ o → (node_then shapes (rest k) o t n).outcome ≡ went word words left
        → sum_by cost (node_then shapes (rest k) o t n).trace ≡ cycles_at shapes (later k) o (slice_get with_times i) t n + owed o
    at k i None t n word words left more e h = absurd (not_waiting h)
    at k i (Some it) t n word words left more e h = behind k i it t n word words left more e (node_run shapes it t n).outcome refl h

    counted : (k : ℕ) → Counted k
    counted zero i t n word words left h = absurd (not_waiting h)
    counted (suc k) i t n word words left h = at k i (slice_get nodes i) t n word words left (counted k) refl h

pub costs_count : CostsCountRuns
costs_count cfg timed well leads t n word words left h =
    omega (
      arith,
      by_points (costs_of timed.nodes.items) (flat_run cfg t n).trace,
      counted cfg timed well leads (shapes_of cfg.frame) (2 * n + 2) cfg.first.0 t n word words left h,
      first_owes_none cfg timed well leads (slice_get cfg.nodes.items cfg.first.0) refl,
    )
