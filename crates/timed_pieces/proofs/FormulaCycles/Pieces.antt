-- The formula gives the cycles of flat runs, and so of the runs of pieces.
use Rattle.std.proofs.Common.{◌≡◌, ◌∙◌, ℕ, suc, ◌+◌, ◌*◌, ◌<◌, ◌≤◌, refl, sym, ap, ap₂, subst, inl, inr, true, false, Bool, List, [], ◌∷◌, filter, Option, Some, arith}
use Rattle.std.specs.Prelude.{slice_get, ◌⊎◌, if◌then◌else◌}
use Rattle.std.proofs.lemmas.Bool.{cases_Bool, false≢true}
use Rattle.std.proofs.lemmas.List.Sums.{sum_by-append}
use Rattle.hls_base.specs.declared.point.Point.{Point}
use Rattle.hls_base.specs.Tallies.{same_point, count_in}
use Rattle.hls_base.proofs.SamePoints.{same_point-Decides}
use Rattle.c_meaning.specs.Points.{times}
use Rattle.ir_core.specs.declared.cfg.Cfg.{Cfg}
use Rattle.ir_core.specs.declared.cfg.Node.{Node}
use Rattle.ir_core.specs.declared.cfg.Node.TheVariants as node
use Rattle.ir_core.specs.declared.stamp.Untimed.{Untimed}
use Rattle.ir_core.specs.declared.timed.Timed.{Timed}
use Rattle.c_meaning.specs.PieceRuns.Values.{Store}
use Rattle.c_meaning.specs.PieceRuns.Pieces as p
use Rattle.hls_base.specs.Steps.{went, Ran, ran}
use Rattle.ir_core.specs.Bodies.{Words}
use Rattle.ir_core.specs.FlatRuns.{flat_run}
use Rattle.clock_ir.specs.WellTimed.{IsWellTimed, IsWellTimedNode}
use Rattle.clock_ir.specs.ClockRuns.{ended, timed_program, clock_run}
use Rattle.clock_runs.specs.Laws.{IsEnded, run_cycles}
use Rattle.timed_pieces.proofs.ScheduleRuns.Programs.{scheduled_well, scheduled_keeps}
use Rattle.cycle_report.specs.declared.report.Cost.{Cost}
use Rattle.cycle_report.specs.FormulaValue.{cycles}
use Rattle.report_rows.specs.Costs.{node_costs, costs_of, weighed, end_of}
use Rattle.timed_pieces.specs.FlatRuns.{has_node}
use Rattle.timed_pieces.proofs.FlatRuns.Whole.{flat_runs}
use Rattle.timed_pieces.specs.Laws.{node_count}
use Rattle.timed_pieces.specs.FormulaCycles.Ends.{LoopsLeadToTheirEnds}
use Rattle.timed_pieces.specs.FormulaCycles.{IsTallyOf, AreKept, FormulaCountsRuns, FormulaCountsPieces}
use Rattle.timed_pieces.proofs.FormulaCycles.Sums.{sum_same}
use Rattle.timed_pieces.proofs.FormulaCycles.Counting.{untimed_there}
use Rattle.timed_pieces.proofs.FormulaCycles.Whole.{costs_count}

-- ---- flat runs

pub formula_counts : FormulaCountsRuns
formula_counts cfg timed rows well leads are t n word words left h tally counts =
    omega (
      arith,
      costs_count cfg timed well leads t n word words left h,
      are.sums (times (flat_run cfg t n).trace),
      sum_same (λ (row : Cost). row.cost * count_in tally row.point) (λ (row : Cost). row.cost * times (flat_run cfg t n).trace row.point) (λ row. ap (λ z. row.cost * z) (counts row.point)) rows,
    )

-- ---- points that are kept

add_if : Bool → ℕ → ℕ
add_if b n = if b then n + 1 else n

-- a point that is dropped is not this one
dropped : (kept : Point → Bool) (q p : Point) → kept p ≡ true → kept q ≡ false → same_point q p ≡ false
dropped kept q p k d = elim (cases_Bool (same_point q p)) [
  | inl same ↦ absurd (false≢true (sym d ∙ ap kept ((same_point-Decides q p).0 same) ∙ k))
  | inr other ↦ other
]

pub kept_times : (kept : Point → Bool) (p : Point) → kept p ≡ true → (trace : List Point) → times (filter kept trace) p ≡ times trace p
kept_times kept p k [] = refl
kept_times kept p k (q ∷ trace) = by (kept q) refl (kept_times kept p k trace) where
  by : (b : Bool) → kept q ≡ b → times (filter kept trace) p ≡ times trace p → times (if b then q ∷ filter kept trace else filter kept trace) p ≡ times (q ∷ trace) p
  by true e h = ap (λ n. if same_point q p then n + 1 else n) h
  by false e h = h ∙ ap (λ b. if b then times trace p + 1 else times trace p) (sym (dropped kept q p k e))

pub none_kept : (kept : Point → Bool) (p : Point) (trace : List Point) → times trace p ≡ 0 → times (filter kept trace) p ≡ 0
none_kept kept p trace e = omega (arith, e, no_more trace) where
  by : (c : Bool) (n m : ℕ) → m ≤ n → (if c then m + 1 else m) ≤ (if c then n + 1 else n)
  by true n m h = omega (arith, h)
  by false n m h = h

  less : (c : Bool) (n m : ℕ) → m ≤ n → m ≤ (if c then n + 1 else n)
  less true n m h = omega (arith, h)
  less false n m h = h

  at : (k : Bool) (q : Point) (trace : List Point) → times (filter kept trace) p ≤ times trace p → times (if k then q ∷ filter kept trace else filter kept trace) p ≤ times (q ∷ trace) p
  at true q trace h = by (same_point q p) (times trace p) (times (filter kept trace) p) h
  at false q trace h = less (same_point q p) (times trace p) (times (filter kept trace) p) h

  no_more : (trace : List Point) → times (filter kept trace) p ≤ times trace p
  no_more [] = omega arith
  no_more (q ∷ trace) = at (kept q) q trace (no_more trace)

-- ---- costs whose points weigh the same

module _ (f g : Point → ℕ) where
  abbrev WeighSame : Node Timed → Type 0
  WeighSame (node.Plain block) = f block.point ≡ g block.point
  WeighSame (node.Looped region) = (f region.point ≡ g region.point) × (f (end_of region.point) ≡ g (end_of region.point))

  node_weighs : (it : Node Timed) → WeighSame it → weighed f (node_costs it) ≡ weighed g (node_costs it)
  node_weighs (node.Plain block) h = ap (λ z. 0 + block.length * z) h
  node_weighs (node.Looped region) h = ap₂ (λ y z. (0 + region.ii * y) + (region.exit + 2) * z) h.0 h.1

  nodes_weigh : (nodes : List (Node Timed)) → ((i : ℕ) (it : Node Timed) → slice_get nodes i ≡ Some it → WeighSame it) → weighed f (costs_of nodes) ≡ weighed g (costs_of nodes)
  nodes_weigh [] h = refl
  nodes_weigh (it ∷ nodes) h =
      omega (
        arith,
        sum_by-append (λ (c : Cost). c.cost * f c.point) (node_costs it) (costs_of nodes),
        sum_by-append (λ (c : Cost). c.cost * g c.point) (node_costs it) (costs_of nodes),
        node_weighs it (h 0 it refl),
        nodes_weigh nodes (λ i. h (suc i)),
      )

-- ---- runs of pieces

module _ (cfg : Cfg Untimed) (timed : Cfg Timed) (well : IsWellTimed cfg timed) (leads : LoopsLeadToTheirEnds cfg) (kept : Point → Bool) (tally : List (Point × ℕ)) (trace : List Point) (all : AreKept kept trace cfg.nodes.items) (counts : IsTallyOf tally trace) where
  as_kept : (p q : Point) → p ≡ q → (kept q ≡ true) ⊎ (times trace q ≡ 0) → times (filter kept trace) p ≡ count_in tally p
  as_kept p q e (inl k) = kept_times kept p (ap kept e ∙ k) trace ∙ sym (counts p)
  as_kept p q e (inr none) = (let z : times trace p ≡ 0 = ap (times trace) e ∙ none in none_kept kept p trace z ∙ sym z ∙ sym (counts p))

  weighs : (i : ℕ) (u : Node Untimed) (it : Node Timed) → slice_get cfg.nodes.items i ≡ Some u → IsWellTimedNode cfg.frame.memories.items u it → WeighSame (times (filter kept trace)) (count_in tally) it
  weighs i (node.Plain block) (node.Looped it) e is = absurd is
  weighs i (node.Looped region) (node.Plain it) e is = absurd is
  weighs i (node.Plain block) (node.Plain it) e is = as_kept it.point block.point is.1.1.point (all i (node.Plain block) e)
  weighs i (node.Looped region) (node.Looped it) e is =
      let a = leads.behind i region e in (
        as_kept it.point region.point is.1.1.point (all i (node.Looped region) e),
        as_kept (end_of it.point) a.0.point (ap end_of is.1.1.point ∙ sym a.1.1) (all region.next.0 (node.Plain a.0) a.1.0),
      )

  pub kept_costs : weighed (times (filter kept trace)) (costs_of timed.nodes.items) ≡ weighed (count_in tally) (costs_of timed.nodes.items)
  kept_costs = nodes_weigh (times (filter kept trace)) (count_in tally) timed.nodes.items (λ i it at.
      let u = untimed_there cfg.frame.memories.items cfg.nodes.items timed.nodes.items well.nodes i it at in
      weighs i u.0 it u.1.0 u.1.1)

nothing_more : (n : ℕ) → n + 0 ≡ n
nothing_more n = omega arith

pub formula_counts_pieces : FormulaCountsPieces
formula_counts_pieces f choice kept pieces point returned cfg fine laid units timed loops times_ sound leads rows are s t holds fits passes n left trace way last e tally counts =
    let well = scheduled_well units cfg timed loops times_.frame times_.first times_.nodes in
    let x = (flat_runs f choice kept pieces point returned cfg fine laid s t holds fits).ends n left trace way last e in
    let count = node_count f choice kept pieces point trace in
    let there = has_node f choice kept pieces point in
    let run : flat_run cfg t count ≡ ran (filter there trace) (went x.0 x.1 0) = ap (λ k. flat_run cfg t k) (sym (nothing_more count)) ∙ x.3 0 in
    let ends : (flat_run cfg t count).outcome ≡ went x.0 x.1 0 = ap (λ (r : Ran Words (Option ℕ)). r.outcome) run in
    let y = (scheduled_keeps units cfg timed loops times_.frame times_.first times_.nodes sound t).finite count x.0 x.1 0 ends in
    let same : 1 + run_cycles cfg timed t count ≡ cycles 1 rows tally =
    omega (
      arith,
      costs_count cfg timed well leads t count x.0 x.1 0 ends,
      ap (λ (r : Ran Words (Option ℕ)). weighed (times r.trace) (costs_of timed.nodes.items)) run,
      kept_costs cfg timed well leads there tally trace (subst (λ (r : Ran Store p.Way). AreKept there r.trace cfg.nodes.items) e (passes n)) counts,
      are.sums (count_in tally),
    ) in
    (x.0, x.1, x.2, subst (λ c. clock_run (timed_program timed) t c ≡ ended x.0 x.1) same y.0, subst (λ c. (m : ℕ) → m < c → IsEnded (clock_run (timed_program timed) t m) → ⊥) same y.1)
