-- What nodes cost, point by point, comes to the cycles of a run.
use Rattle.std.proofs.Common.{◌≡◌, ◌≢◌, ◌∙◌, ℕ, zero, suc, ◌+◌, ◌*◌, refl, ap, subst, inl, inr, true, false, Bool, List, [], ◌∷◌, Option, Some, arith}
use Rattle.std.specs.Prelude.{slice_get, if◌then◌else◌, map}
use Rattle.std.specs.List.{sum_by}
use Rattle.std.proofs.lemmas.List.Sums.{sum_by-cons, sum_by-append}
use Rattle.hls_base.specs.declared.number.NodeId.{NodeId}
use Rattle.hls_base.specs.declared.point.Point.{Point}
use Rattle.ir_core.specs.declared.body.Operand.{Operand}
use Rattle.ir_core.specs.declared.cfg.End.{End}
use Rattle.ir_core.specs.declared.cfg.End.TheVariants as end
use Rattle.ir_core.specs.declared.cfg.Memory.{Memory}
use Rattle.ir_core.specs.declared.cfg.Node.{Node}
use Rattle.ir_core.specs.declared.cfg.Node.TheVariants as node
use Rattle.ir_core.specs.declared.stamp.Untimed.{Untimed}
use Rattle.ir_layout.specs.Nodes.{node_point}
use Rattle.ir_core.specs.declared.timed.Timed.{Timed}
use Rattle.ir_core.specs.Bodies.{Words}
use Rattle.ir_core.specs.TreeRuns.{holds}
use Rattle.ir_core.specs.FlatRuns.{to, ends, going, chosen}
use Rattle.clock_ir.specs.WellTimed.{IsWellTimedNode, AreWellTimed}
use Rattle.report_rows.specs.Costs as costs
use Rattle.report_rows.specs.Costs.{node_costs, costs_of, own_cost, weighed, end_of}
use Rattle.cycle_report.specs.declared.report.Cost.{Cost}
use Rattle.timed_pieces.specs.FormulaCycles.Ends.{targets, Among}
use Rattle.timed_pieces.proofs.FormulaCycles.Sums.{once, once_same, once_other, cost_at}

-- ---- what a point costs, node by node

abbrev pub end_cost : Node Timed → ℕ
end_cost (node.Plain block) = 0
end_cost (node.Looped region) = region.exit + 2

abbrev pub own_at : Point → Node Timed → ℕ
own_at q node = own_cost node * once q (costs.node_point node)

abbrev pub end_at : Point → Node Timed → ℕ
end_at q node = end_cost node * once q (end_of (costs.node_point node))

part_at : (q : Point) (it : Node Timed) → weighed (once q) (node_costs it) ≡ own_at q it + end_at q it
part_at q (node.Plain block) = omega arith
part_at q (node.Looped region) = omega arith

pub by_node : (q : Point) (nodes : List (Node Timed)) → cost_at (costs_of nodes) q ≡ sum_by (own_at q) nodes + sum_by (end_at q) nodes
by_node q [] = refl
by_node q (it ∷ nodes) =
    omega (
      arith,
      sum_by-append (λ (c : Cost). c.cost * once q c.point) (node_costs it) (costs_of nodes),
      part_at q it,
      sum_by-cons (own_at q) it nodes,
      sum_by-cons (end_at q) it nodes,
      by_node q nodes,
    )

pub at_same : (c : ℕ) (p q : Point) → q ≡ p → c * once q p ≡ c
at_same c p q e = ap (λ z. c * z) (once_same p q e) ∙ (let z : c * 1 ≡ c = omega arith in z)

pub at_other : (c : ℕ) (p q : Point) → q ≢ p → c * once q p ≡ 0
at_other c p q h = ap (λ z. c * z) (once_other p q h) ∙ (let z : c * 0 ≡ 0 = omega arith in z)

-- ---- where a block leads

lead_if : (b : Bool) (x y : ℕ) (others : List ℕ) → Among (if b then x else y) (x ∷ y ∷ others)
lead_if true x y others = inl refl
lead_if false x y others = inr (inl refl)

case_leads : (t : Words) (results : List ℕ) (cases : List (Operand × NodeId)) (other : NodeId) → Among (chosen t results cases other) (other.0 ∷ map (λ (c : Operand × NodeId). c.1.0) cases)
case_leads t results [] other = inl refl
case_leads t results (c ∷ cs) other = case_leads_by (holds t results c.0) (case_leads t results cs other) where
  case_leads_by : (b : Bool) → Among (chosen t results cs other) (other.0 ∷ map (λ (c : Operand × NodeId). c.1.0) cs) → Among (if b then c.1.0 else chosen t results cs other) (other.0 ∷ c.1.0 ∷ map (λ (c : Operand × NodeId). c.1.0) cs)
  case_leads_by true h = inr (inl refl)
  case_leads_by false (inl e) = inl e
  case_leads_by false (inr h) = inr (inr h)

to_same : {i j : ℕ} → to i ≡ to j → i ≡ j
to_same e = (cc)

not_ends : {w : Option ℕ} {j : ℕ} → ends w ≡ to j → ⊥
not_ends e = (cc)

pub goes_among : (e : End) (t : Words) (results : List ℕ) (j : ℕ) → going e t results ≡ to j → Among j (targets e)
goes_among (end.Jump n) t results j h = inl (to_same h)
goes_among (end.Branch test left right) t results j h = subst (λ i. Among i (left.0 ∷ right.0 ∷ [])) (to_same h) (lead_if (holds t results test) left.0 right.0 [])
goes_among (end.Choose cases other) t results j h = subst (λ i. Among i (other.0 ∷ map (λ (c : Operand × NodeId). c.1.0) cases.items)) (to_same h) (case_leads t results cases.items other)
goes_among (end.Return x) t results j h = absurd (not_ends h)

-- ---- nodes and their times

module _ (memories : List Memory) where
  -- the node with its times stands at the same place
  pub timed_there : (nodes : List (Node Untimed)) (timed : List (Node Timed)) → AreWellTimed memories nodes timed → (i : ℕ) (it : Node Untimed) → slice_get nodes i ≡ Some it
      → (t : Node Timed) × ((slice_get timed i ≡ Some t) × IsWellTimedNode memories it t)
  timed_there [] [] h i it e = absurd (cc)
  timed_there [] (t ∷ ts) h i it e = absurd h
  timed_there (n ∷ ns) [] h i it e = absurd h
  timed_there (n ∷ ns) (t ∷ ts) h zero it e = (t, (refl, subst (λ x. IsWellTimedNode memories x t) (cc) h.0))
  timed_there (n ∷ ns) (t ∷ ts) h (suc i) it e = timed_there ns ts h.1 i it e

  pub untimed_there : (nodes : List (Node Untimed)) (timed : List (Node Timed)) → AreWellTimed memories nodes timed → (i : ℕ) (t : Node Timed) → slice_get timed i ≡ Some t
      → (it : Node Untimed) × ((slice_get nodes i ≡ Some it) × IsWellTimedNode memories it t)
  untimed_there [] [] h i t e = absurd (cc)
  untimed_there [] (t ∷ ts) h i u e = absurd h
  untimed_there (n ∷ ns) [] h i u e = absurd h
  untimed_there (n ∷ ns) (t ∷ ts) h zero u e = (n, (refl, subst (λ x. IsWellTimedNode memories n x) (cc) h.0))
  untimed_there (n ∷ ns) (t ∷ ts) h (suc i) u e = untimed_there ns ts h.1 i u e

  pub same_points : (it : Node Untimed) (t : Node Timed) → IsWellTimedNode memories it t → costs.node_point t ≡ node_point it
  same_points (node.Plain block) (node.Plain timed) h = h.1.1.point
  same_points (node.Looped region) (node.Looped timed) h = h.1.1.point
  same_points (node.Plain block) (node.Looped timed) h = absurd h
  same_points (node.Looped region) (node.Plain timed) h = absurd h
