-- Operations one after another, where all are defined.
use Rattle.std.proofs.Common.{◌≡◌, ℕ, zero, suc, ◌+◌, ◌<◌, ◌≤◌, [], ◌∷◌, ◌++◌, take, drop, length, inl, inr, refl, sym, ap, ◌∙◌, subst, arith}
use Rattle.std.proofs.lemmas.Bool.{cases_eq}
use Rattle.std.proofs.lemmas.List.{drop_more, length-map}
use Rattle.hls_base.specs.declared.place.Place.{Place}
use Rattle.hls_base.specs.declared.refusal.UbRule.{UbRule}
use Rattle.hls_base.specs.Valued.{Valued, is, faulty, and_then}
use Rattle.ir_core.specs.Bodies.{Words, Performed, Ranged, perform, operations}
use Rattle.clock_ir.specs.Flows.{TimedOp}
use Rattle.clock_runs.proofs.Settings.{Setting, nothing, op_at, ops_of, count_of, value_at, memories_at, after}
use Rattle.clock_runs.proofs.Defined.{reading_in, Defined, inner, ranged, op_of_at, performs}

ranged_more : (s : Setting) (t : Words) (k : ℕ)
    → ranged s t (suc k) ≡ record { results = (after s t k).results ++ value_at s k (reading_in s t k) (after s t k).memories ∷ []; words = record { variables = t.variables; memories = memories_at s k (reading_in s t k) (after s t k).memories } }
unfolding after
ranged_more s t k = refl

ranged_not : {rule : UbRule} {at : Place} {r : Ranged} → faulty rule at ≡ is r → ⊥
ranged_not e = (cc)

ranged_same : {r q : Ranged} → is r ≡ is q → r ≡ q
ranged_same e = (cc)

module _ (s : Setting) (t : Words) where
  -- m operations from operation k on
  abbrev walked : ℕ → ℕ → Ranged → Valued Ranged
  walked m k r = operations s.shapes (ops_of s) (take m (drop k (ops_of s))) r.results r.words

  abbrev Walked : ℕ → ℕ → Ranged → Type 0
  Walked m k r = (r ≡ ranged s t (k + m)) × ((j : ℕ) → k ≤ j → j < k + m → Defined s t j)

  first_of : (k : ℕ) → k < count_of s → drop k (ops_of s) ≡ (op_at s k).op ∷ drop (k + 1) (ops_of s)
  first_of k lt =
      let within : k < length (ops_of s) = omega (arith, length-map s.body.ops (λ (p : TimedOp). p.op)) in
      drop_more (ops_of s) k nothing.op within ∙ ap (λ o. o ∷ drop (k + 1) (ops_of s)) (op_of_at s k lt)

  abbrev behind_one : ℕ → ℕ → Valued Performed → Valued Ranged
  behind_one m k v = and_then v (λ p. walked m (k + 1) (record { results = (after s t k).results ++ p.result ∷ []; words = p.words }))

  walk_one : (m k : ℕ) (r : Ranged) (v : Valued Performed) → ((q : Ranged) → walked m (k + 1) (ranged s t (k + 1)) ≡ is q → Walked m (k + 1) q)
      → perform s.shapes (ops_of s) (op_at s k).op (after s t k).results (inner s t k) ≡ v → behind_one m k v ≡ is r → Walked (suc m) k r
  walk_one m k r (faulty rule at) rest given split = absurd (ranged_not split)
  walk_one m k r (is q) rest given split =
      let one = performs s t k q given in
      let more : ranged s t (suc k) ≡ record { results = (after s t k).results ++ q.result ∷ []; words = q.words } =
      ranged_more s t k ∙ ap (λ (p : Performed). record { results = (after s t k).results ++ p.result ∷ []; words = p.words }) (sym one.0) in
      let next : suc k ≡ k + 1 = omega arith in
      let others = rest r (ap (walked m (k + 1)) (sym (ap (ranged s t) next) ∙ more) ∙ split) in (
        others.0 ∙ ap (ranged s t) (let z : k + 1 + m ≡ k + suc m = omega arith in z),
        (λ j low high. elim (cases_eq k j) [
          | inl same ↦ subst (Defined s t) same one.1
          | inr differ ↦ others.1 j (omega arith) (omega arith)
        ]),
      )

  -- where they end, they end with what the operations give
  pub walk : (m k : ℕ) → k + m ≤ count_of s → (r : Ranged) → walked m k (ranged s t k) ≡ is r → Walked m k r
  walk zero k h r e = (sym (ranged_same e) ∙ ap (ranged s t) (let z : k ≡ k + 0 = omega arith in z), λ j low high. absurd (omega arith))
  walk (suc m) k h r e =
      let lt : k < count_of s = omega arith in
      walk_one m k r (perform s.shapes (ops_of s) (op_at s k).op (after s t k).results (inner s t k)) (λ q. walk m (k + 1) (omega arith) q) refl
      (sym (ap (λ xs. operations s.shapes (ops_of s) (take (suc m) xs) (after s t k).results (inner s t k)) (first_of k lt)) ∙ e)
