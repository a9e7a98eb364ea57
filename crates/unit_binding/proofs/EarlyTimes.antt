-- Constraints that lead on by ranks have early times.
use Rattle.std.proofs.Common.{◌≡◌, ℕ, zero, suc, ◌+◌, ◌*◌, ◌<◌, ◌≤◌, inl, inr, List, map, length, refl, ap, ◌∙◌, pos, arith}
use Rattle.std.specs.Prelude.{nat_lt, if◌then◌else◌, slice_index, slice_index_or, ◌≤ℤ◌}
use Rattle.std.specs.List.{All, range_with_len}
use Rattle.std.proofs.lemmas.Nat.{mul-le}
use Rattle.std.proofs.lemmas.Int.{ints}
use Rattle.std.proofs.lemmas.Bool.{cases_eq}
use Rattle.std.proofs.lemmas.Bool.Decides.{nat_tests}
use Rattle.std.proofs.lemmas.List.Elements.{All-from_get_or}
use Rattle.std.proofs.lemmas.List.FromFn.{length-map-range_with_len, get_or-map-range_with_len}
use Rattle.diff_solve.specs.declared.solve.Constraint.{Constraint}
use Rattle.diff_solve.specs.Times.{Meets, InRange, Solves, IsBelowAll}

-- ---- a time for each node as a list

module _ (time : ℕ → ℕ) (nodes : ℕ) where
  abbrev pub listed : List ℕ
  listed = map time (range_with_len 0 nodes)

  pub listed_at : (node : ℕ) → node < nodes → slice_index listed node ≡ time node
  listed_at node lt = get_or-map-range_with_len time 0 nodes node node 0 lt (omega arith)

-- ---- how many nodes have a lower rank

abbrev one : ℕ → ℕ → ℕ
one limit rank = if nat_lt rank limit then 1 else 0

one_low : (limit rank : ℕ) → one limit rank ≤ 1
one_low limit rank = grind (arith, nat_tests)

one_grows : (a b rank : ℕ) → a ≤ b → one a rank ≤ one b rank
one_grows a b rank le = grind (arith, nat_tests)

one_here : (limit rank : ℕ) → rank < limit → one limit rank ≡ 1
one_here limit rank lt = grind (arith, nat_tests)

one_none : (limit rank : ℕ) → limit ≤ rank → one limit rank ≡ 0
one_none limit rank le = grind (arith, nat_tests)

module _ (rank : ℕ → ℕ) where
  -- of the first n nodes
  abbrev pub behind : ℕ → ℕ → ℕ
  behind limit zero = 0
  behind limit (suc n) = one limit (rank n) + behind limit n

  behind_low : (limit n : ℕ) → behind limit n ≤ n
  behind_low limit zero = omega arith
  behind_low limit (suc n) = omega (arith, one_low limit (rank n), behind_low limit n)

  pub behind_none : (n : ℕ) → behind 0 n ≡ 0
  behind_none zero = refl
  behind_none (suc n) = omega (arith, one_none 0 (rank n) (omega arith), behind_none n)

  pub behind_grows : (a b n : ℕ) → a ≤ b → behind a n ≤ behind b n
  behind_grows a b zero le = omega arith
  behind_grows a b (suc n) le = omega (arith, one_grows a b (rank n) le, behind_grows a b n le)

  -- a node between the limits counts for the second alone
  pub behind_gains : (a b n v : ℕ) → a ≤ rank v → rank v < b → v < n → behind a n + 1 ≤ behind b n
  behind_gains a b zero v above below inside = absurd (omega arith)
  behind_gains a b (suc n) v above below inside = elim (cases_eq v n) [
    | inl e ↦
        (let same : rank v ≡ rank n = ap rank e in
        let none = one_none a (rank n) (omega arith) in
        let here = one_here b (rank n) (omega arith) in
        let rest = behind_grows a b n (omega arith) in
        omega arith)
    | inr differs ↦
        (let rest = behind_gains a b n v above below (omega arith) in
        let first = one_grows a b (rank n) (omega arith) in
        omega arith)
  ]

  -- a node of no lower rank does not count
  pub behind_less : (limit n v : ℕ) → limit ≤ rank v → v < n → behind limit n + 1 ≤ n
  behind_less limit zero v above inside = absurd (omega arith)
  behind_less limit (suc n) v above inside = elim (cases_eq v n) [
    | inl e ↦
        (let same : rank v ≡ rank n = ap rank e in
        let none = one_none limit (rank n) (omega arith) in
        let rest = behind_low limit n in
        omega arith)
    | inr differs ↦ (let rest = behind_less limit n v above (omega arith) in let first = one_low limit (rank n) in omega arith)
  ]

  -- ---- times

  -- a constraint that leads to a node of greater rank, and adds no more than the limit
  pub record LeadsOnBy (limit : ℕ) (c : Constraint) : Type 0 where
    pub onward : rank c.from < rank c.to
    pub weight : c.weight ≤ℤ pos limit

  module _ (limit nodes : ℕ) (some : 0 < nodes) (first : rank 0 ≡ 0) (cs : List Constraint) (inside : InRange nodes cs) (leads : All (LeadsOnBy limit) cs) where
    abbrev time : ℕ → ℕ
    time v = limit * behind (rank v) nodes

    met : (c : Constraint) → (c.from < nodes) × (c.to < nodes) → LeadsOnBy limit c → Meets (listed time nodes) c
    met c within leads_on =
        let from = listed_at time nodes c.from within.0 in
        let to = listed_at time nodes c.to within.1 in
        let more = behind_gains (rank c.from) (rank c.to) nodes c.from (omega arith) leads_on.onward within.0 in
        let grown : limit * (behind (rank c.from) nodes + 1) ≤ limit * behind (rank c.to) nodes = mul-le limit (behind (rank c.from) nodes + 1) limit (behind (rank c.to) nodes) (omega arith) more in
        let split : limit * (behind (rank c.from) nodes + 1) ≡ limit * behind (rank c.from) nodes + limit = grind arith in
        let weight = leads_on.weight in
        omega (arith, ints, from, to, grown, split, weight)

    pub early_solves : Solves nodes cs (listed time nodes)
    early_solves = record {
      count = length-map-range_with_len time 0 nodes;
      start = listed_at time nodes 0 some ∙ ap (λ r. limit * behind r nodes) first ∙ ap (λ b. limit * b) (behind_none nodes) ∙ (let z : limit * 0 ≡ 0 = grind arith in z);
      meets = (λ k d lt. met (slice_index_or cs k d) (inside k d lt) (leads k d lt));
    }

    early_at : (v : ℕ) → v < nodes → slice_index (listed time nodes) v + limit ≤ limit * nodes
    early_at v lt =
        let at = listed_at time nodes v lt in
        let less = behind_less (rank v) nodes v (omega arith) lt in
        let grown : limit * (behind (rank v) nodes + 1) ≤ limit * nodes = mul-le limit (behind (rank v) nodes + 1) limit nodes (omega arith) less in
        let split : limit * (behind (rank v) nodes + 1) ≡ limit * behind (rank v) nodes + limit = grind arith in
        omega (arith, at, grown, split)

    -- so the least times are early
    pub least_early : (times : List ℕ) → length times ≡ nodes → IsBelowAll nodes cs times → All (λ t. t + limit ≤ limit * nodes) times
    least_early times count below =
        All-from_get_or (λ t. t + limit ≤ limit * nodes) times 0
        (λ v lt. (let low = below (listed time nodes) early_solves v (omega arith) in let early = early_at v (omega arith) in omega arith))
