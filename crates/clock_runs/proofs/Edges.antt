-- The edges between two accesses of a body, and what they ask for.
use Rattle.std.proofs.Common.{◌≡◌, ◌≢◌, ℕ, zero, suc, ◌+◌, ◌<◌, ◌≤◌, ◌==◌, inl, inr, sym, refl, ap, subst, Bool, true, false, not, ◌&&◌, ◌||◌, List, [], ◌∷◌, min, Option, Some, None, if◌then◌else◌, arith}
use Rattle.std.specs.Prelude.{nat_lt}
use Rattle.std.specs.List.{Contains}
use Rattle.std.proofs.lemmas.List.Elements.{Contains-append_left, Contains-append_right}
use Rattle.std.proofs.lemmas.Bool.{cond-true, and_from, eq-eqb, ne_eqb, lt-ltb}
use Rattle.hls_base.specs.declared.number.ArrayId.{ArrayId}
use Rattle.ir_core.specs.declared.body.Body.{Body}
use Rattle.ir_core.specs.declared.body.Op.{Op}
use Rattle.ir_core.specs.declared.stamp.Untimed.{Untimed}
use Rattle.dep_graph.specs.declared.access.Meeting.{Meeting}
use Rattle.dep_graph.specs.declared.edge.Edge.{Edge}
use Rattle.dep_graph.specs.Offsets.{nth, sums_of}
use Rattle.dep_graph.specs.Meetings.{Reach, reach_of, reaches_from, is_store, subscripts_of, distances_between}
use Rattle.dep_graph.specs.Dependences.{gather, memory_edge, edges_at, is_pair, memory_edges, edges_of_reaches, op_edges, edges_of}
use Rattle.clock_runs.proofs.Growing.{Foresees}
use Rattle.clock_runs.proofs.Lists.{some_same, no_some, one_contains, gather_contains}

-- the access of operation k
abbrev pub reach_at : Body Untimed → ℕ → Op Untimed → ArrayId → Reach
reach_at body k u array = record { op = k; array = array; is_store = is_store u.kind; subscripts = subscripts_of body (sums_of body) u }

reach_here : (body : Body Untimed) (k : ℕ) (u : Op Untimed) (p : Option ArrayId) (array : ArrayId) → p ≡ Some array → Contains (reach_of body (sums_of body) k u p) (reach_at body k u array)
reach_here body k u None array e = absurd (no_some e)
reach_here body k u (Some other) array e = subst (λ a. Contains (reach_of body (sums_of body) k u (Some other)) (reach_at body k u a)) (some_same e) (one_contains (reach_at body k u other))

reach_found : (body : Body Untimed) (rest : List (Op Untimed)) (k i : ℕ) (u : Op Untimed) (array : ArrayId) → nth rest i ≡ Some u → u.array ≡ Some array → Contains (reaches_from body (sums_of body) k rest) (reach_at body (k + i) u array)
reach_found body [] k i u array e a = absurd (no_some e)
reach_found body (v ∷ rest) k zero u array e a =
    let same : v ≡ u = some_same e in
    let here : k ≡ k + 0 = omega arith in
    Contains-append_left (reach_of body (sums_of body) k v v.array) (reaches_from body (sums_of body) (suc k) rest) (reach_at body (k + 0) u array)
    (subst (λ (w : Op Untimed). Contains (reach_of body (sums_of body) k w w.array) (reach_at body (k + 0) u array)) (sym same)
    (subst (λ j. Contains (reach_of body (sums_of body) k u u.array) (reach_at body j u array)) here (reach_here body k u u.array array a)))
reach_found body (v ∷ rest) k (suc i) u array e a =
    let next : suc k + i ≡ k + suc i = omega arith in
    Contains-append_right (reach_of body (sums_of body) k v v.array) (reaches_from body (sums_of body) (suc k) rest) (reach_at body (k + suc i) u array)
    (subst (λ j. Contains (reaches_from body (sums_of body) (suc k) rest) (reach_at body j u array)) next (reach_found body rest (suc k) i u array e a))

-- ---- the edge at a distance that is foreseen

either_store : (a b : Bool) → a ≡ true → (a || b) ≡ true
either_store true b e = refl
either_store false b e = (cc)

module _ (body : Body Untimed) (k n : ℕ) (u v : Op Untimed) (first second : ArrayId) (at_k : nth body.ops.items k ≡ Some u) (at_n : nth body.ops.items n ≡ Some v) (array_k : u.array ≡ Some first) (array_n : v.array ≡ Some second)
    (one_array : first.0 ≡ second.0) (some_store : (is_store u.kind || is_store v.kind) ≡ true) where
  abbrev from : Reach
  from = reach_at body k u first

  abbrev to : Reach
  to = reach_at body n v second

  abbrev meeting : Meeting
  meeting = distances_between (subscripts_of body (sums_of body) u) (subscripts_of body (sums_of body) v)

  in_body : (e : Edge) → k ≢ n → Contains (edges_at from to meeting) e → Contains (edges_of body) e
  in_body e differ c =
      let reaches = reaches_from body (sums_of body) 0 body.ops.items in
      let pair : is_pair from to ≡ true =
      and_from (first.0 == second.0 && not (k == n)) (is_store u.kind || is_store v.kind) (and_from (first.0 == second.0) (not (k == n)) (eq-eqb first.0 second.0 one_array) (ap not (ne_eqb k n differ))) some_store in
      let there : Contains (memory_edges from to) e = subst (λ es. Contains es e) (sym (cond-true _ _ _ pair)) c in
      let k_found : Contains reaches from = subst (λ j. Contains reaches (reach_at body j u first)) (let z : 0 + k ≡ k = omega arith in z) (reach_found body body.ops.items 0 k u first at_k array_k) in
      let n_found : Contains reaches to = subst (λ j. Contains reaches (reach_at body j v second)) (let z : 0 + n ≡ n = omega arith in z) (reach_found body body.ops.items 0 n v second at_n array_n) in
      Contains-append_right (op_edges body 0 body.ops.items) (edges_of_reaches reaches) e
      (gather_contains (λ r. gather (memory_edges r) reaches) reaches from e k_found (gather_contains (memory_edges from) reaches to e n_found there))

  near_there : k < n → Foresees 0 meeting → Contains (edges_at from to meeting) (memory_edge from to 0)
  near_there lt f =
      let on : nat_lt k n ≡ true = lt-ltb k n lt in
      let here : Contains (if nat_lt k n then memory_edge from to 0 ∷ [] else []) (memory_edge from to 0) = subst (λ es. Contains es (memory_edge from to 0)) (sym (cond-true _ _ _ on)) (one_contains (memory_edge from to 0)) in
      elim f [
        | inl a ↦ subst (λ x. Contains (edges_at from to x) (memory_edge from to 0)) (sym a) (Contains-append_left (if nat_lt k n then memory_edge from to 0 ∷ [] else []) (memory_edge from to 1 ∷ []) (memory_edge from to 0) here)
        | inr a ↦ subst (λ x. Contains (edges_at from to x) (memory_edge from to 0)) (sym a) here
      ]

  -- in one iteration
  pub near_edge : k < n → Foresees 0 meeting → Contains (edges_of body) (memory_edge from to 0)
  near_edge lt f = in_body (memory_edge from to 0) (λ e. (let z = e in omega arith)) (near_there lt f)

  -- in a later one, at a distance that is not more
  pub far_edge : (d : ℕ) → k ≢ n → Foresees (suc d) meeting → (e : ℕ) × ((e ≤ suc d) × Contains (edges_of body) (memory_edge from to e))
  far_edge d differ f = elim f [
    | inl a ↦ (
      1,
      (
        omega arith,
        in_body (memory_edge from to 1) differ (subst (λ x. Contains (edges_at from to x) (memory_edge from to 1)) (sym a)
            (Contains-append_right (if nat_lt k n then memory_edge from to 0 ∷ [] else []) (memory_edge from to 1 ∷ []) (memory_edge from to 1) (one_contains (memory_edge from to 1)))),
      ),
    )
    | inr a ↦ (min (suc d) 65536, (omega arith, in_body (memory_edge from to (min (suc d) 65536)) differ (subst (λ x. Contains (edges_at from to x) (memory_edge from to (min (suc d) 65536))) (sym a) (one_contains (memory_edge from to (min (suc d) 65536))))))
  ]
