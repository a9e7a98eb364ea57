-- What holds of rules that lead on.
use Rattle.std.proofs.Common.{◌≡◌, ℕ, zero, suc, ◌+◌, ◌*◌, ◌<◌, ◌≤◌, ◌^◌, ◌⊎◌, inl, inr, List, [], ◌∷◌, refl, ap, ◌∙◌, pos, negsuc, arith}
use Rattle.std.specs.Prelude.{slice_index_or, ◌<ℤ◌, ◌≤ℤ◌}
use Rattle.std.specs.List.{All, Contains}
use Rattle.std.proofs.lemmas.Nat.{mul-le}
use Rattle.std.proofs.lemmas.Int.{ints}
use Rattle.std.proofs.lemmas.Bool.{cases_lt}
use Rattle.std.proofs.lemmas.List.Elements.{All-map, All-contains, All-head, All-tail, All-weaker}
use Rattle.std.proofs.lemmas.List.Sums.{sum_by-cons}
use Rattle.dep_graph.specs.declared.edge.Edge.{Edge}
use Rattle.diff_solve.specs.declared.solve.Constraint.{Constraint}
use Rattle.diff_solve.specs.Times.{InRange}
use Rattle.diff_solve.specs.Answers.{HasModestWeights}
use Rattle.unit_binding.proofs.EarlyTimes.{behind, behind_none, behind_gains, behind_less}
use Rattle.modulo_loop.specs.Rules.{at_interval, constraints_at}
use Rattle.modulo_loop.specs.Lowest.{IsStart, Follows, IsTooTight, total_latency, total_distance}
use Rattle.modulo_loop.specs.ForwardRules.{IsRuleWithin, AreForwardRules}

-- ---- as constraints

module _ (nodes ii : ℕ) (rules : List Edge) (within : All (IsRuleWithin nodes) rules) (low : ii < 2 ^ 32) where
  far : (rule : Edge) → IsRuleWithin nodes rule → ii * rule.distance ≤ 2 ^ 48
  far rule h =
      let near = h.distance in
      let grown : ii * rule.distance ≤ 4294967296 * 65536 = mul-le ii rule.distance 4294967296 65536 (omega arith) (omega arith) in
      omega arith

  pub rules_in_range : InRange nodes (constraints_at ii rules)
  rules_in_range = All-map (λ (c : Constraint). (c.from < nodes) × (c.to < nodes)) (at_interval ii) rules (All-weaker (IsRuleWithin nodes) (λ (rule : Edge). (rule.from < nodes) × (rule.to < nodes)) (λ rule h. (h.from, h.to)) rules within)

  pub rules_modest : HasModestWeights (constraints_at ii rules)
  rules_modest =
      All-map (λ (c : Constraint). (negsuc (2 ^ 50) <ℤ c.weight) × (c.weight ≤ℤ pos (2 ^ 20))) (at_interval ii) rules
      (All-weaker (IsRuleWithin nodes) (λ (rule : Edge). (negsuc (2 ^ 50) <ℤ (at_interval ii rule).weight) × ((at_interval ii rule).weight ≤ℤ pos (2 ^ 20)))
      (λ rule h. (let short = h.latency in let back = far rule h in (omega (arith, ints, short, back), omega (arith, ints, short, back)))) rules within)

  pub rules_short : All (λ (c : Constraint). c.weight ≤ℤ pos 127) (constraints_at ii rules)
  rules_short =
      All-map (λ (c : Constraint). c.weight ≤ℤ pos 127) (at_interval ii) rules
      (All-weaker (IsRuleWithin nodes) (λ (rule : Edge). (at_interval ii rule).weight ≤ℤ pos 127) (λ rule h. (let short = h.latency in omega (arith, ints, short))) rules within)

-- ---- cycles that are too tight

abbrev IsKept : (ℕ → ℕ) → ℕ → Edge → Type 0
IsKept time ii rule = time rule.from + rule.latency ≤ time rule.to + ii * rule.distance

some_or_none : (n : ℕ) → (n ≡ 0) ⊎ (0 < n)
some_or_none zero = inl refl
some_or_none (suc n) = inr (omega arith)

at_least_once : (a n : ℕ) → 0 < n → a ≤ a * n
at_least_once a zero some = absurd (omega arith)
at_least_once a (suc n) some = grind arith

-- along edges that are kept, times rise by the latencies, but for an interval for each iteration
along : (time : ℕ → ℕ) (ii : ℕ) (edges : List Edge) → All (IsKept time ii) edges → (a b : ℕ) → Follows a edges b → time a + total_latency edges ≤ time b + ii * total_distance edges
along time ii [] kept a b same = (let e : time a ≡ time b = ap time same in omega arith)
along time ii (e ∷ edges) kept a b (here, rest) =
    let first = All-head (IsKept time ii) e edges kept in
    let later = along time ii edges (All-tail (IsKept time ii) e edges kept) e.to b rest in
    let begins : time e.from ≡ time a = ap time here in
    let latencies = sum_by-cons (λ (x : Edge). x.latency) e edges in
    let distances = sum_by-cons (λ (x : Edge). x.distance) e edges in
    let split : ii * (e.distance + total_distance edges) ≡ ii * e.distance + ii * total_distance edges = grind arith in
    let whole : ii * total_distance (e ∷ edges) ≡ ii * (e.distance + total_distance edges) = ap (λ d. ii * d) distances in
    omega (arith, first, later, begins, latencies, split, whole)

start_kept : (time : ℕ → ℕ) (ii : ℕ) (e : Edge) → time 0 ≡ 0 → IsStart e → IsKept time ii e
start_kept time ii e first (from, latency, distance, why) = (let begins : time e.from ≡ time 0 = ap time from in omega arith)

no_distance : (a d : ℕ) → d ≡ 0 → a * d ≡ 0
no_distance a d none = ap (λ x. a * x) none ∙ (let z : a * 0 ≡ 0 = grind arith in z)

module _ (nodes : ℕ) (rules : List Edge) (go : AreForwardRules nodes rules) where
  abbrev time : ℕ → ℕ
  time v = 127 * behind go.rank (go.rank v) nodes

  time_first : time 0 ≡ 0
  time_first = ap (λ r. 127 * behind go.rank r nodes) go.first ∙ ap (λ b. 127 * b) (behind_none go.rank nodes)

  kept_within : (rule : Edge) → Contains rules rule → rule.distance ≡ 0 → time rule.from + rule.latency ≤ time rule.to
  kept_within rule there near =
      let in_ : IsRuleWithin nodes rule = All-contains (IsRuleWithin nodes) rules rule go.within there in
      let onward : go.rank rule.from < go.rank rule.to = All-contains (λ (r : Edge). r.distance ≡ 0 → go.rank r.from < go.rank r.to) rules rule go.onward there near in
      let more = behind_gains go.rank (go.rank rule.from) (go.rank rule.to) nodes rule.from (omega arith) onward in_.from in
      let short = in_.latency in
      omega arith

  kept_again : (rule : Edge) → Contains rules rule → time rule.from + rule.latency ≤ 127 * nodes
  kept_again rule there =
      let in_ : IsRuleWithin nodes rule = All-contains (IsRuleWithin nodes) rules rule go.within there in
      let less = behind_less go.rank (go.rank rule.from) nodes rule.from (omega arith) in_.from in
      let short = in_.latency in
      omega arith

  all_kept : (ii : ℕ) → 127 * nodes ≤ ii → (rule : Edge) → Contains rules rule → IsKept time ii rule
  all_kept ii enough rule there = elim (some_or_none rule.distance) [
    | inl near ↦ (let kept = kept_within rule there near in omega arith)
    | inr again ↦ (let kept = kept_again rule there in let grows = at_least_once ii rule.distance again in omega arith)
  ]

  pub tight_is_low : (ii : ℕ) (cycle : List Edge) → IsTooTight rules ii cycle → ii < 127 * nodes
  tight_is_low ii cycle tight = elim (cases_lt ii (127 * nodes)) [
    | inl lt ↦ lt
    | inr enough ↦
        (let kept : All (IsKept time ii) cycle = (λ k d lt. elim (tight.known k d lt) [ inl there ↦ all_kept ii enough (slice_index_or cycle k d) there | inr start ↦ start_kept time ii (slice_index_or cycle k d) time_first start ]) in
        let round = along time ii cycle kept tight.closed.0 tight.closed.0 tight.closed.1 in
        let positive = tight.positive in
        absurd (omega arith))
  ]

  -- a cycle within an iteration would be too tight for each interval
  pub tight_leads_on : (ii : ℕ) (cycle : List Edge) → IsTooTight rules ii cycle → 0 < total_distance cycle
  tight_leads_on ii cycle tight = elim (some_or_none (total_distance cycle)) [
    | inr some ↦ some
    | inl none ↦
        (let positive = tight.positive in
        let here : ii * total_distance cycle ≡ 0 = no_distance ii (total_distance cycle) none in
        let there : 127 * nodes * total_distance cycle ≡ 0 = no_distance (127 * nodes) (total_distance cycle) none in
        absurd (let low = tight_is_low (127 * nodes) cycle (record { known = tight.known; closed = tight.closed; positive = omega arith }) in omega arith))
  ]
