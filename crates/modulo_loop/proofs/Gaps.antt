-- Least times have no gaps, so they are early.
use Rattle.std.proofs.Common.{◌≡◌, ℕ, zero, suc, ◌+◌, ◌-◌, ◌*◌, ◌<◌, ◌≤◌, inl, inr, List, min, ap, ◌∙◌, pos, arith}
use Rattle.std.specs.Prelude.{slice_index, slice_index_or, ◌≤ℤ◌}
use Rattle.std.specs.List.{All}
use Rattle.std.proofs.lemmas.Nat.{mul-le}
use Rattle.std.proofs.lemmas.Int.{ints}
use Rattle.std.proofs.lemmas.Bool.{cases_lt}
use Rattle.std.proofs.lemmas.List.Elements.{All-from_get_or}
use Rattle.std.proofs.lemmas.List.FromFn.{length-map-range_with_len}
use Rattle.diff_solve.specs.declared.solve.Constraint.{Constraint}
use Rattle.diff_solve.specs.Times.{Meets, InRange, Solves, IsBelowAll}
use Rattle.unit_binding.proofs.EarlyTimes.{listed, listed_at, behind, behind_grows, behind_gains, behind_less}

module _ (limit nodes : ℕ) (times : List ℕ) where
  abbrev at : ℕ → ℕ
  at v = slice_index times v

  abbrev before : ℕ → ℕ
  before t = behind at t nodes

  -- Gaps of more than the limit are closed: in each step the time rises by one, but never above the limit for each node that is earlier.
  abbrev low : ℕ → ℕ
  low zero = 0
  low (suc t) = min (low t + 1) (limit * before (suc t))

  low_below : (t : ℕ) → low t ≤ limit * before t
  low_below zero = omega arith
  low_below (suc t) = omega arith

  low_rises : (t : ℕ) → low t ≤ low (suc t)
  low_rises t =
      let below = low_below t in
      let grows = behind_grows at t (suc t) nodes (omega arith) in
      let more = mul-le limit (before t) limit (before (suc t)) (omega arith) grows in
      omega arith

  -- in so many steps it rises by no more
  low_slow : (t d : ℕ) → low (t + d) ≤ low t + d
  low_slow t zero = (let e : low (t + 0) ≡ low t = ap low (let z : t + 0 ≡ t = omega arith in z) in omega arith)
  low_slow t (suc d) =
      let e : low (t + suc d) ≡ low (suc (t + d)) = ap low (let z : t + suc d ≡ suc (t + d) = omega arith in z) in
      let rest = low_slow t d in
      omega arith

  -- from the time of a node on it rises by one in each step, up to the limit
  low_fast : (v d : ℕ) → v < nodes → low (at v) + min d limit ≤ low (at v + d)
  low_fast v zero inside = (let e : low (at v + 0) ≡ low (at v) = ap low (let z : at v + 0 ≡ at v = omega arith in z) in omega arith)
  low_fast v (suc d) inside =
      let e : low (at v + suc d) ≡ low (suc (at v + d)) = ap low (let z : at v + suc d ≡ suc (at v + d) = omega arith in z) in
      let rest = low_fast v d inside in
      let below = low_below (at v) in
      let more = behind_gains at (at v) (suc (at v + d)) nodes v (omega arith) (omega arith) inside in
      let grown : limit * (before (at v) + 1) ≤ limit * before (suc (at v + d)) = mul-le limit (before (at v) + 1) limit (before (suc (at v + d))) (omega arith) more in
      let split : limit * (before (at v) + 1) ≡ limit * before (at v) + limit = grind arith in
      omega arith

  abbrev closed : ℕ → ℕ
  closed v = low (at v)

  module _ (some : 0 < nodes) (cs : List Constraint) (inside : InRange nodes cs) (short : All (λ (c : Constraint). c.weight ≤ℤ pos limit) cs) (solves : Solves nodes cs times) where
    met : (c : Constraint) → (c.from < nodes) × (c.to < nodes) → c.weight ≤ℤ pos limit → Meets times c → Meets (listed closed nodes) c
    met c within weight meets =
        let from = listed_at closed nodes c.from within.0 in
        let to = listed_at closed nodes c.to within.1 in
        elim (cases_lt (at c.to) (at c.from)) [
          | inl lt ↦
              (let gap : ℕ = at c.from - at c.to in
              let e : low (at c.to + gap) ≡ low (at c.from) = ap low (let z : at c.to + gap ≡ at c.from = omega arith in z) in
              let slow = low_slow (at c.to) gap in
              omega (arith, ints, from, to, e, slow, meets, lt))
          | inr le ↦
              (let gap : ℕ = at c.to - at c.from in
              let e : low (at c.from + gap) ≡ low (at c.to) = ap low (let z : at c.from + gap ≡ at c.to = omega arith in z) in
              let fast = low_fast c.from gap within.0 in
              omega (arith, ints, from, to, e, fast, meets, le, weight))
        ]

    closed_solves : Solves nodes cs (listed closed nodes)
    closed_solves = record {
      count = length-map-range_with_len closed 0 nodes;
      start = listed_at closed nodes 0 some ∙ ap low solves.start;
      meets = (λ k d lt. met (slice_index_or cs k d) (inside k d lt) (short k d lt) (solves.meets k d lt));
    }

    closed_early : (v : ℕ) → v < nodes → closed v + limit ≤ limit * nodes
    closed_early v lt =
        let below = low_below (at v) in
        let less = behind_less at (at v) nodes v (omega arith) lt in
        let grown : limit * (before (at v) + 1) ≤ limit * nodes = mul-le limit (before (at v) + 1) limit nodes (omega arith) less in
        let split : limit * (before (at v) + 1) ≡ limit * before (at v) + limit = grind arith in
        omega arith

    pub no_gaps : IsBelowAll nodes cs times → All (λ t. t + limit ≤ limit * nodes) times
    no_gaps least =
        All-from_get_or (λ t. t + limit ≤ limit * nodes) times 0
        (λ v lt. (let inside_v : v < nodes = (let z = solves.count in omega arith) in
        let low_v = least (listed closed nodes) closed_solves v inside_v in
        let there = listed_at closed nodes v inside_v in
        let early = closed_early v inside_v in
        omega arith))
