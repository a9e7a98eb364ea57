-- Times at which rules are met that go forward.
use Rattle.std.proofs.Common.{◌≡◌, ℕ, zero, suc, ◌+◌, ◌*◌, ◌<◌, ◌≤◌, ◌⊎◌, inl, inr, List, [], ◌∷◌, map, length, refl, sym, subst, ◌∙◌, arith}
use Rattle.std.specs.Prelude.{◌==◌, nat_le, if◌then◌else◌, slice_index, slice_index_or}
use Rattle.std.specs.List.{All, Contains, sum_by, range_with_len}
use Rattle.std.proofs.lemmas.Int.{ints}
use Rattle.std.proofs.lemmas.Bool.Decides.{nat_tests}
use Rattle.std.proofs.lemmas.List.Elements.{All-map, All-contains, All-head, All-tail, Contains-get_or}
use Rattle.std.proofs.lemmas.List.FromFn.{length-map-range_with_len, get_or-map-range_with_len}
use Rattle.std.proofs.lemmas.List.Sums.{sum_by-cons, sum_by-le-sum_by}
use Rattle.dep_graph.specs.declared.edge.Edge.{Edge}
use Rattle.diff_solve.specs.Times.{Meets, Solves}
use Rattle.modulo_loop.specs.Rules.{at_interval, constraints_at}
use Rattle.modulo_loop.specs.Lowest.{total_latency}
use Rattle.clock_runs.specs.IntervalBounds.Forward.{LeadsForward, GoForwardBy, NameNodesBelow}

-- where one function is nowhere above another, and at a member lower by this gap, so are the sums
sum_gains : (f g : Edge → ℕ) (gap : ℕ) (rules : List Edge) → ((r : Edge) → f r ≤ g r) → (k : ℕ) (e : Edge) → k < length rules
    → f (slice_index_or rules k e) + gap ≤ g (slice_index_or rules k e) → sum_by f rules + gap ≤ sum_by g rules
sum_gains f g gap [] le k e lt more = absurd (omega arith)
sum_gains f g gap (r ∷ rules) le zero e lt more =
    omega (arith, sum_by-cons f r rules, sum_by-cons g r rules, sum_by-le-sum_by f g rules le, more)
sum_gains f g gap (r ∷ rules) le (suc k) e lt more =
    let rest = sum_gains f g gap rules le k e (omega arith) more in
    omega (arith, sum_by-cons f r rules, sum_by-cons g r rules, le r, rest)

-- the same of a member
member_gains : (f g : Edge → ℕ) (gap : ℕ) (rules : List Edge) (e : Edge) → ((r : Edge) → f r ≤ g r) → Contains rules e → f e + gap ≤ g e → sum_by f rules + gap ≤ sum_by g rules
member_gains f g gap rules e le (k, lt, same) more = sum_gains f g gap rules le k e lt (subst (λ x. f x + gap ≤ g x) (sym same) more)

-- the latency of a rule within one iteration, once it has led to its node
abbrev due : (ℕ → ℕ) → ℕ → Edge → ℕ
due rank limit rule = if rule.distance == 0 then (if nat_le (rank rule.to) limit then rule.latency else 0) else 0

-- The time of a node is the sum of the latencies of those rules within one iteration that lead to nodes of no greater rank.
abbrev pub time_by : (ℕ → ℕ) → List Edge → ℕ → ℕ
time_by rank rules node = sum_by (due rank (rank node)) rules

due_latency : (rank : ℕ → ℕ) (limit : ℕ) (rule : Edge) → due rank limit rule ≤ rule.latency
due_latency rank limit rule = grind (arith, nat_tests)

due_grows : (rank : ℕ → ℕ) (a b : ℕ) → a ≤ b → (rule : Edge) → due rank a rule ≤ due rank b rule
due_grows rank a b le rule = grind (arith, nat_tests)

due_here : (rank : ℕ → ℕ) (limit : ℕ) (rule : Edge) → rule.distance ≡ 0 → rank rule.to ≤ limit → due rank limit rule ≡ rule.latency
due_here rank limit rule within le = grind (arith, nat_tests)

due_before : (rank : ℕ → ℕ) (limit : ℕ) (rule : Edge) → limit < rank rule.to → due rank limit rule ≡ 0
due_before rank limit rule lt = grind (arith, nat_tests)

due_again : (rank : ℕ → ℕ) (limit : ℕ) (rule : Edge) → 0 < rule.distance → due rank limit rule ≡ 0
due_again rank limit rule lt = grind (arith, nat_tests)

some_or_none : (n : ℕ) → (n ≡ 0) ⊎ (0 < n)
some_or_none zero = inl refl
some_or_none (suc n) = inr (omega arith)

at_least_once : (a n : ℕ) → 0 < n → a ≤ a * n
at_least_once a zero some = absurd (omega arith)
at_least_once a (suc n) some = grind arith

-- a time for each node, at which a rule is met
abbrev pub IsKept : (ℕ → ℕ) → ℕ → Edge → Type 0
IsKept time ii rule = time rule.from + rule.latency ≤ time rule.to + ii * rule.distance

module _ (rank : ℕ → ℕ) (rules : List Edge) (go : GoForwardBy rank rules) where
  abbrev time : ℕ → ℕ
  time = time_by rank rules

  pub time_latest : (node : ℕ) → time node ≤ total_latency rules
  time_latest node = sum_by-le-sum_by (due rank (rank node)) (λ e. e.latency) rules (due_latency rank (rank node))

  -- within an iteration the rule itself counts where it leads, and not where it begins
  kept_within : (rule : Edge) → Contains rules rule → rule.distance ≡ 0 → time rule.from + rule.latency ≤ time rule.to
  kept_within rule there within =
      let onward : rank rule.from < rank rule.to = All-contains (LeadsForward rank) rules rule go.forward there within in
      let before = due_before rank (rank rule.from) rule onward in
      let here = due_here rank (rank rule.to) rule within (omega arith) in
      member_gains (due rank (rank rule.from)) (due rank (rank rule.to)) rule.latency rules rule (due_grows rank (rank rule.from) (rank rule.to) (omega arith)) there (omega (arith, before, here))

  -- a rule from an earlier iteration counts nowhere
  kept_again : (rule : Edge) → Contains rules rule → 0 < rule.distance → time rule.from + rule.latency ≤ total_latency rules
  kept_again rule there again =
      let none = due_again rank (rank rule.from) rule again in
      member_gains (due rank (rank rule.from)) (λ e. e.latency) rule.latency rules rule (due_latency rank (rank rule.from)) there (omega (arith, none))

  pub all_kept : (ii : ℕ) → total_latency rules ≤ ii → (rule : Edge) → Contains rules rule → IsKept time ii rule
  all_kept ii enough rule there = elim (some_or_none rule.distance) [
    | inl within ↦ (let kept = kept_within rule there within in omega arith)
    | inr again ↦ (let kept = kept_again rule there again in let grows = at_least_once ii rule.distance again in omega arith)
  ]

  -- no rule within an iteration leads to its beginning
  pub time_first : time 0 ≡ 0
  time_first = none_due rules go.forward
    where
      none_due : (rs : List Edge) → All (LeadsForward rank) rs → sum_by (due rank (rank 0)) rs ≡ 0
      none_due [] all = refl
      none_due (r ∷ rs) all =
          let here : due rank (rank 0) r ≡ 0 = elim (some_or_none r.distance) [
            | inl within ↦ (let onward = All-head (LeadsForward rank) r rs all within in let first = go.first in due_before rank (rank 0) r (omega arith))
            | inr again ↦ due_again rank (rank 0) r again
          ] in
          omega (arith, sum_by-cons (due rank (rank 0)) r rs, here, none_due rs (All-tail (LeadsForward rank) r rs all))

-- ---- times as a list

module _ (time : ℕ → ℕ) (nodes : ℕ) where
  abbrev pub listed : List ℕ
  listed = map time (range_with_len 0 nodes)

  listed_at : (node : ℕ) → node < nodes → slice_index listed node ≡ time node
  listed_at node lt = get_or-map-range_with_len time 0 nodes node node 0 lt (omega arith)

  listed_first : (n : ℕ) → n ≡ nodes → time 0 ≡ 0 → slice_index listed 0 ≡ 0
  listed_first zero e first = subst (λ n. slice_index (map time (range_with_len 0 n)) 0 ≡ 0) e refl
  listed_first (suc n) e first = listed_at 0 (omega arith) ∙ first

  pub listed_early : (limit : ℕ) → ((node : ℕ) → time node ≤ limit) → All (λ t. t ≤ limit) listed
  listed_early limit early = All-map (λ t. t ≤ limit) time (range_with_len 0 nodes) (λ k d lt. early (slice_index_or (range_with_len 0 nodes) k d))

  pub listed_solves : (rules : List Edge) (ii : ℕ) → NameNodesBelow nodes rules → time 0 ≡ 0 → ((rule : Edge) → Contains rules rule → IsKept time ii rule) → Solves nodes (constraints_at ii rules) listed
  listed_solves rules ii below first kept = record {
    count = length-map-range_with_len time 0 nodes;
    start = listed_first nodes refl first;
    meets = All-map (Meets listed) (at_interval ii) rules (λ k d lt. met (slice_index_or rules k d) (below k d lt) (kept (slice_index_or rules k d) (member rules k d lt)));
  }
    where
      member : (rs : List Edge) (k : ℕ) (d : Edge) → k < length rs → Contains rs (slice_index_or rs k d)
      member rs k d lt = Contains-get_or rs k d lt

      met : (rule : Edge) → (rule.from < nodes) × (rule.to < nodes) → IsKept time ii rule → Meets listed (at_interval ii rule)
      met rule inside keeps =
          let from = listed_at rule.from inside.0 in
          let to = listed_at rule.to inside.1 in
          omega (arith, ints, from, to, keeps)
