-- Costs in order of their points, merged into one row for each point.
use Rattle.std.proofs.Common.{◌≡◌, ℕ, zero, suc, ◌+◌, ◌*◌, ◌<◌, ◌≤◌, Bool, true, false, List, [], ◌∷◌, ◌++◌, length, append_assoc, refl, sym, ap, ◌∙◌, arith}
use Rattle.std.specs.Prelude.{nat_lt, if◌then◌else◌, slice_index_or}
use Rattle.std.specs.declared.cmp.Ordering.{Ordering}
use Rattle.std.specs.declared.cmp.Ordering.TheVariants.{Less, Equal, Greater}
use Rattle.std.specs.Ordering.{is_lt, is_eq, is_gt}
use Rattle.std.specs.List.{All, sum_by, flat_map}
use Rattle.std.specs.List.Sorted.{IsPermutation, IsSortedBy}
use Rattle.std.proofs.lemmas.Bool.{ltb-true, ltb-false}
use Rattle.std.proofs.lemmas.List.Elements.{All-nil, All-cons, All-head, All-tail, All-append}
use Rattle.std.proofs.lemmas.List.Sums.{sum_by-cons, sum_by-append, get_or-le-sum_by}
use Rattle.std.proofs.lemmas.List.Sorted.{sorted_far, ranks_by, All-permutation, sum_by-IsPermutation}
use Rattle.hls_base.specs.declared.point.Point.{Point}
use Rattle.hls_base.specs.Tallies.{count_in}
use Rattle.ir_core.specs.declared.cfg.Node.{Node}
use Rattle.ir_core.specs.declared.cfg.Node.TheVariants as n
use Rattle.ir_core.specs.declared.timed.Timed.{Timed}
use Rattle.cycle_report.specs.declared.report.Cost.{Cost}
use Rattle.report_rows.specs.Points.{point_order, IsBefore}
use Rattle.report_rows.specs.Costs.{node_costs, costs_of, node_point, own_cost, weighed, once, Rises, AreRowsOf, EachCounts, end_of, some_cost, some_costs, last_with, rows_with, merged_behind}
use Rattle.report_rows.proofs.PointOrder.{point_total, level_points, NotAfter, not_after, before_then}

-- ---- costs in order

abbrev Ascends : List Cost → Type 0
Ascends [] = Unit {0}
Ascends (cost ∷ costs) = All (λ later. NotAfter cost.point later.point) costs × Ascends costs

ascends : (costs : List Cost) → ((i j : ℕ) (d : Cost) → i ≤ j → j < length costs → NotAfter (slice_index_or costs i d).point (slice_index_or costs j d).point) → Ascends costs
ascends [] h = tt
ascends (cost ∷ costs) h = (
  λ k d l. h 0 (suc k) d (omega arith) (omega arith),
  ascends costs (λ i j d a b. h (suc i) (suc j) d (omega arith) (omega arith)),
)

abbrev comes_first : Cost → Cost → Bool
comes_first x y = is_lt (point_order x.point y.point)

ascends_sorted : (costs : List Cost) → IsSortedBy comes_first costs → Ascends costs
ascends_sorted costs up =
    ascends costs (λ i j d a b. not_after (slice_index_or costs i d).point (slice_index_or costs j d).point
    (sorted_far comes_first (ranks_by point_total (λ (c : Cost). c.point)) costs up i j d a b))

-- ---- one more row

module _ (P : Point → Type 0) where
  last_keeps : (last cost : Cost) (o : Ordering) → P last.point → P cost.point
      → All (λ row. P row.point) (if is_eq o then record { point = last.point; cost = last.cost + cost.cost } ∷ [] else last ∷ cost ∷ [])
  last_keeps last cost Less p q = All-cons (λ (row : Cost). P row.point) last (cost ∷ []) p (All-cons (λ (row : Cost). P row.point) cost [] q (All-nil (λ (row : Cost). P row.point)))
  last_keeps last cost Equal p q = All-cons (λ (row : Cost). P row.point) (record { point = last.point; cost = last.cost + cost.cost }) [] p (All-nil (λ (row : Cost). P row.point))
  last_keeps last cost Greater p q = All-cons (λ (row : Cost). P row.point) last (cost ∷ []) p (All-cons (λ (row : Cost). P row.point) cost [] q (All-nil (λ (row : Cost). P row.point)))

  rows_keep : (rows : List Cost) (cost : Cost) → All (λ row. P row.point) rows → P cost.point → All (λ row. P row.point) (rows_with rows cost)
  rows_keep [] cost h p = All-cons (λ (row : Cost). P row.point) cost [] p (All-nil (λ (row : Cost). P row.point))
  rows_keep (last ∷ []) cost h p = last_keeps last cost (point_order last.point cost.point) (All-head (λ (row : Cost). P row.point) last [] h) p
  rows_keep (row ∷ next ∷ rows) cost h p =
      All-cons (λ (row : Cost). P row.point) row (rows_with (next ∷ rows) cost) (All-head (λ (row : Cost). P row.point) row (next ∷ rows) h)
      (rows_keep (next ∷ rows) cost (All-tail (λ (row : Cost). P row.point) row (next ∷ rows) h) p)

last_rises : (last cost : Cost) (o : Ordering) → point_order last.point cost.point ≡ o → is_gt o ≡ false
    → Rises (if is_eq o then record { point = last.point; cost = last.cost + cost.cost } ∷ [] else last ∷ cost ∷ [])
last_rises last cost Less e h = (All-cons (λ (later : Cost). IsBefore last.point later.point) cost [] e (All-nil (λ (later : Cost). IsBefore last.point later.point)), (All-nil (λ (later : Cost). IsBefore cost.point later.point), tt))
last_rises last cost Equal e h = (All-nil (λ (later : Cost). IsBefore last.point later.point), tt)
last_rises last cost Greater e h = absurd (cc)

rows_rise : (rows : List Cost) (cost : Cost) → Rises rows → All (λ row. NotAfter row.point cost.point) rows → Rises (rows_with rows cost)
rows_rise [] cost r h = (All-nil (λ (later : Cost). IsBefore cost.point later.point), tt)
rows_rise (last ∷ []) cost r h = last_rises last cost (point_order last.point cost.point) refl (All-head (λ (row : Cost). NotAfter row.point cost.point) last [] h)
rows_rise (row ∷ next ∷ rows) cost r h =
    let later : All (λ row. NotAfter row.point cost.point) (next ∷ rows) = All-tail (λ (row : Cost). NotAfter row.point cost.point) row (next ∷ rows) h in (
      rows_keep (λ (p : Point). IsBefore row.point p) (next ∷ rows) cost r.0
          (before_then row.point next.point cost.point (All-head (λ (later : Cost). IsBefore row.point later.point) next rows r.0) (All-head (λ (row : Cost). NotAfter row.point cost.point) next rows later)),
      rows_rise (next ∷ rows) cost r.1 later,
    )

abbrev IsSome : Cost → Type 0
IsSome cost = 0 < cost.cost

last_counts : (last cost : Cost) (o : Ordering) → IsSome last → IsSome cost
    → All IsSome (if is_eq o then record { point = last.point; cost = last.cost + cost.cost } ∷ [] else last ∷ cost ∷ [])
last_counts last cost Less p q = All-cons IsSome last (cost ∷ []) p (All-cons IsSome cost [] q (All-nil IsSome))
last_counts last cost Equal p q = All-cons IsSome (record { point = last.point; cost = last.cost + cost.cost }) [] (omega arith) (All-nil IsSome)
last_counts last cost Greater p q = All-cons IsSome last (cost ∷ []) p (All-cons IsSome cost [] q (All-nil IsSome))

rows_count : (rows : List Cost) (cost : Cost) → All IsSome rows → IsSome cost → All IsSome (rows_with rows cost)
rows_count [] cost h p = All-cons IsSome cost [] p (All-nil IsSome)
rows_count (last ∷ []) cost h p = last_counts last cost (point_order last.point cost.point) (All-head IsSome last [] h) p
rows_count (row ∷ next ∷ rows) cost h p =
    All-cons IsSome row (rows_with (next ∷ rows) cost) (All-head IsSome row (next ∷ rows) h) (rows_count (next ∷ rows) cost (All-tail IsSome row (next ∷ rows) h) p)

module _ (weight : Point → ℕ) where
  abbrev part : Cost → ℕ
  part cost = cost.cost * weight cost.point

  joined_sum : (a b k m : ℕ) → k ≡ m → (a + b) * k ≡ a * k + b * m
  joined_sum a b k m e = rw e (omega arith)

  last_sum : (last cost : Cost) (o : Ordering) → point_order last.point cost.point ≡ o
      → weighed weight (if is_eq o then record { point = last.point; cost = last.cost + cost.cost } ∷ [] else last ∷ cost ∷ []) ≡ part last + part cost
  last_sum last cost Less e = omega arith
  last_sum last cost Equal e = omega (arith, joined_sum last.cost cost.cost (weight last.point) (weight cost.point) (ap weight (level_points last.point cost.point e)))
  last_sum last cost Greater e = omega arith

  rows_sum : (rows : List Cost) (cost : Cost) → weighed weight (rows_with rows cost) ≡ weighed weight rows + part cost
  rows_sum [] cost = omega arith
  rows_sum (last ∷ []) cost = omega (arith, last_sum last cost (point_order last.point cost.point) refl)
  rows_sum (row ∷ next ∷ rows) cost =
      omega (arith, sum_by-cons part row (rows_with (next ∷ rows) cost), sum_by-cons part row (next ∷ rows), rows_sum (next ∷ rows) cost)

  merged_sum : (costs rows : List Cost) → weighed weight (merged_behind rows costs) ≡ weighed weight rows + weighed weight costs
  merged_sum [] rows = omega arith
  merged_sum (cost ∷ costs) rows = omega (arith, merged_sum costs (rows_with rows cost), rows_sum rows cost, sum_by-cons part cost costs)

  none_sum : (cost k : ℕ) → cost ≡ 0 → 0 ≡ cost * k
  none_sum cost k e = rw e (omega arith)

  some_sum_by : (point : Point) (cost : ℕ) (b : Bool) → nat_lt 0 cost ≡ b → weighed weight (if b then record { point = point; cost = cost } ∷ [] else []) ≡ cost * weight point
  some_sum_by point cost true e = omega arith
  some_sum_by point cost false e = none_sum cost (weight point) (omega (arith, ltb-false 0 cost e))

  some_sum : (point : Point) (cost : ℕ) → weighed weight (some_cost point cost) ≡ cost * weight point
  some_sum point cost = some_sum_by point cost (nat_lt 0 cost) refl

  node_sum : (node : Node Timed) → weighed weight (some_costs node) ≡ weighed weight (node_costs node)
  node_sum (n.Plain block) = omega (arith, some_sum block.point block.length)
  node_sum (n.Looped region) =
      omega (
        arith,
        some_sum region.point region.ii,
        some_sum (end_of region.point) (region.exit + 2),
        sum_by-append part (some_cost region.point region.ii) (some_cost (end_of region.point) (region.exit + 2)),
      )

  nodes_sum : (nodes : List (Node Timed)) → weighed weight (flat_map some_costs nodes) ≡ weighed weight (costs_of nodes)
  nodes_sum [] = refl
  nodes_sum (node ∷ nodes) =
      omega (arith, sum_by-append part (some_costs node) (flat_map some_costs nodes), sum_by-append part (node_costs node) (costs_of nodes), node_sum node, nodes_sum nodes)

-- ---- all rows

abbrev ComeLater : List Cost → List Cost → Type 0
ComeLater rows costs = All (λ cost. All (λ row. NotAfter row.point cost.point) rows) costs

later_too : (rows costs : List Cost) (cost : Cost) → ComeLater rows costs → All (λ later. NotAfter cost.point later.point) costs → ComeLater (rows_with rows cost) costs
later_too rows costs cost h up k d l =
    rows_keep (λ (p : Point). NotAfter p (slice_index_or costs k d).point) rows cost (h k d l) (up k d l)

merged_rise : (costs rows : List Cost) → Rises rows → ComeLater rows costs → Ascends costs → Rises (merged_behind rows costs)
merged_rise [] rows r h up = r
merged_rise (cost ∷ costs) rows r h up =
    merged_rise costs (rows_with rows cost)
    (rows_rise rows cost r (All-head (λ (cost : Cost). All (λ (row : Cost). NotAfter row.point cost.point) rows) cost costs h))
    (later_too rows costs cost (All-tail (λ (cost : Cost). All (λ (row : Cost). NotAfter row.point cost.point) rows) cost costs h) up.0)
    up.1

merged_count : (costs rows : List Cost) → All IsSome rows → All IsSome costs → All IsSome (merged_behind rows costs)
merged_count [] rows r h = r
merged_count (cost ∷ costs) rows r h = merged_count costs (rows_with rows cost) (rows_count rows cost r (All-head IsSome cost costs h)) (All-tail IsSome cost costs h)

some_counts_by : (point : Point) (cost : ℕ) (b : Bool) → nat_lt 0 cost ≡ b → All IsSome (if b then record { point = point; cost = cost } ∷ [] else [])
some_counts_by point cost true e = All-cons IsSome (record { point = point; cost = cost }) [] (ltb-true 0 cost e) (All-nil IsSome)
some_counts_by point cost false e = All-nil IsSome

some_counts : (point : Point) (cost : ℕ) → All IsSome (some_cost point cost)
some_counts point cost = some_counts_by point cost (nat_lt 0 cost) refl

node_counts : (node : Node Timed) → All IsSome (some_costs node)
node_counts (n.Plain block) = some_counts block.point block.length
node_counts (n.Looped region) =
    All-append IsSome (some_cost region.point region.ii) (some_cost (end_of region.point) (region.exit + 2)) (some_counts region.point region.ii) (some_counts (end_of region.point) (region.exit + 2))

nodes_count : (nodes : List (Node Timed)) → All IsSome (flat_map some_costs nodes)
nodes_count [] = All-nil IsSome
nodes_count (node ∷ nodes) = All-append IsSome (some_costs node) (flat_map some_costs nodes) (node_counts node) (nodes_count nodes)

none_before : (costs : List Cost) → ComeLater [] costs
none_before costs k d l = All-nil (λ (row : Cost). NotAfter row.point (slice_index_or costs k d).point)

pub rows_of : (nodes : List (Node Timed)) (costs : List Cost) → IsPermutation (flat_map some_costs nodes) costs → IsSortedBy comes_first costs → AreRowsOf nodes (merged_behind [] costs)
rows_of nodes costs moved up = record {
  rise = merged_rise costs [] tt (none_before costs) (ascends_sorted costs up);
  positive = merged_count costs [] (All-nil IsSome) (All-permutation IsSome (flat_map some_costs nodes) costs moved (nodes_count nodes));
  sums = λ weight. omega (arith, merged_sum weight costs [], sum_by-IsPermutation (part weight) (flat_map some_costs nodes) costs moved, nodes_sum weight nodes);
}

-- ---- what a node adds to the cycles of a run

module _ (weight : Point → ℕ) where
  by_node : (nodes : List (Node Timed)) → weighed weight (costs_of nodes) ≡ sum_by (λ node. weighed weight (node_costs node)) nodes
  by_node [] = refl
  by_node (node ∷ nodes) =
      omega (arith, sum_by-append (part weight) (node_costs node) (costs_of nodes), sum_by-cons (λ (node : Node Timed). weighed weight (node_costs node)) node nodes, by_node nodes)

  own_part : (node : Node Timed) → own_cost node * weight (node_point node) ≤ weighed weight (node_costs node)
  own_part (n.Plain block) = omega arith
  own_part (n.Looped region) = omega arith

product : (a b : ℕ) → 1 ≤ a → 1 ≤ b → 1 ≤ a * b
product zero b p q = absurd (omega arith)
product (suc a) b p q = omega arith

pub each_counts : (nodes : List (Node Timed)) (rows : List Cost) → AreRowsOf nodes rows → EachCounts nodes rows
each_counts nodes rows are node tally (k, l, e) counts passed =
    omega (
      arith,
      are.sums (count_in tally),
      by_node (count_in tally) nodes,
      get_or-le-sum_by (λ (node : Node Timed). weighed (count_in tally) (node_costs node)) nodes k node l,
      ap (λ (node : Node Timed). weighed (count_in tally) (node_costs node)) e,
      own_part (count_in tally) node,
      product (own_cost node) (count_in tally (node_point node)) counts passed,
    )

-- ---- what all costs come to, each once

appended_once : (costs more : List Cost) → weighed once (costs ++ more) ≡ weighed once costs + weighed once more
appended_once costs more = sum_by-append (part once) costs more

pub merged_once : (costs : List Cost) → weighed once (merged_behind [] costs) ≡ weighed once costs
merged_once costs = omega (arith, merged_sum once costs [])

pub next_once : (costs rest : List Cost) (cost : Cost) → weighed once (costs ++ cost ∷ rest) ≡ weighed once costs + cost.cost + weighed once rest
next_once costs rest cost = omega (arith, appended_once costs (cost ∷ rest), sum_by-cons (part once) cost rest)

-- ---- a last row and one more cost

last_apart : (last cost : Cost) → is_eq (point_order last.point cost.point) ≡ false → last_with last cost ≡ last ∷ cost ∷ []
last_apart last cost e = rw e

pub stays_apart : (rows mid new : List Cost) (last cost : Cost) → is_eq (point_order last.point cost.point) ≡ false → mid ≡ rows ++ last ∷ [] → new ≡ mid ++ cost ∷ [] → new ≡ rows ++ last_with last cost
stays_apart rows mid new last cost e p q =
    q ∙ (ap (λ m. m ++ cost ∷ []) p ∙ (append_assoc rows (last ∷ []) (cost ∷ []) ∙ ap (λ t. rows ++ t) (sym (last_apart last cost e))))

pub rows_behind : (front : List Cost) (last cost : Cost) → rows_with (front ++ last ∷ []) cost ≡ front ++ last_with last cost
rows_behind [] last cost = refl
rows_behind (row ∷ []) last cost = refl
rows_behind (row ∷ next ∷ front) last cost = ap (λ t. row ∷ t) (rows_behind (next ∷ front) last cost)
