-- What comes of a loop in a run of a flat program.
use Rattle.std.proofs.Common.{◌≡◌, ℕ, zero, suc, ◌+◌, ◌-◌, ◌<◌, ◌≤◌, ◌∙◌, inl, inr, sym, refl, ap, subst, Bool, true, false, List, [], ◌∷◌, take, drop, Option, Some, None, if◌then◌else◌, arith}
use Rattle.std.proofs.lemmas.Bool.{cases_Bool, cases_lt, cond-true, cond-false}
use Rattle.std.proofs.lemmas.List.{length-map, take_all, length-drop}
use Rattle.hls_base.specs.declared.place.Place.{Place}
use Rattle.hls_base.specs.declared.point.Point.{Point}
use Rattle.hls_base.specs.declared.refusal.UbRule.{UbRule}
use Rattle.ir_core.specs.declared.body.Operand.{Operand}
use Rattle.ir_core.specs.declared.body.Out.{Out}
use Rattle.hls_base.specs.Steps.{went, undefined, waiting, Ran, ran, goes, then_, reached}
use Rattle.hls_base.specs.Valued.{Valued, is, faulty, valued}
use Rattle.ir_core.specs.Bodies.{OpTree, Words, Ranged, operand, outs, with_word, operations, with_outs}
use Rattle.ir_core.specs.Trees.{BodyTree}
use Rattle.ir_core.specs.TreeRuns.{Turn, again, over, tested, goes_round, iterated, iteration}
use Rattle.clock_ir.specs.Flows.{TimedOp}
use Rattle.clock_runs.proofs.Effects.{Memories, Sort, computing, loading, storing, memories_by}
use Rattle.clock_runs.proofs.Settings.{Setting, op_at, ops_of, count_of, sort_at, allows, after, passes_from, next, moment}
use Rattle.clock_runs.proofs.Iterations.{after_none, after_memories}
use Rattle.clock_runs.proofs.Defined.{Defined, inner, operand_inner, ranged}
use Rattle.clock_runs.proofs.Walks.{walk}
use Rattle.clock_runs.proofs.TimedBlocks.{ranged_first}

outs_inner : (s : Setting) (t : Words) (k : ℕ) (results : List ℕ) (xs : List Out) (f : ℕ → ℕ) → outs xs (inner s t k) results f ≡ outs xs t results f
outs_inner s t k results [] f = refl
outs_inner s t k results (x ∷ xs) f =
    outs_inner s t k results xs (with_word f x.variable.0 (operand (inner s t k) results x.value))
    ∙ ap (λ (r : Operand → ℕ). outs xs t results (with_word f x.variable.0 (r x.value))) (operand_inner s t k results)

round_is : (t : Words) (results : List ℕ) (test : Option Operand) → goes_round test t results ≡ allows (operand t results) test
round_is t results None = refl
round_is t results (Some x) = refl

pub next_moment : (s : Setting) (i : ℕ) → next s (moment s i) ≡ moment s (suc i)
unfolding moment
next_moment s i = refl

no_store : (s : Setting) (sort : Sort) (op : OpTree) (allowed : Bool) (args : List ℕ) (f : Memories) → (sort ≡ storing → ⊥) → memories_by s.shapes op sort allowed args f ≡ f
no_store s computing op allowed args f h = refl
no_store s loading op allowed args f h = refl
no_store s storing op allowed args f h = absurd (h refl)

-- The iterations of a body, of which no operation stores before the test is known.
module _ (s : Setting) (point : Point) (test_in : tested s.body.test ≤ count_of s) (test_first : (k : ℕ) → k < count_of s → sort_at s k ≡ storing → tested s.body.test ≤ k) where
  abbrev tree : BodyTree
  tree = record { ops = ops_of s; outs = s.carried; test = s.body.test }

  abbrev before : ℕ
  before = tested s.body.test

  unstored : (t : Words) (k : ℕ) → k ≤ before → (after s t k).memories ≡ t.memories
  unstored t zero h = after_none s t
  unstored t (suc k) h =
      after_memories s t k
      ∙ no_store s (sort_at s k) (op_at s k).op _ _ (after s t k).memories (λ e. (let z = test_first k (omega arith) e in omega arith))
      ∙ unstored t k (omega arith)

  inner_same : (t : Words) → inner s t before ≡ t
  inner_same t = (λ i. record { variables = t.variables; memories = unstored t before (let z : before ≤ before = omega arith in z) i })

  -- the operations before the test
  first_part : (t : Words) (r : Ranged) → operations s.shapes (ops_of s) (take before (ops_of s)) [] t ≡ is r → (r ≡ ranged s t before) × ((j : ℕ) → j < before → Defined s t j)
  first_part t r e =
      let w = walk s t before 0 (omega arith) r (ap (λ (q : Ranged). operations s.shapes (ops_of s) (take before (ops_of s)) q.results q.words) (ranged_first s t) ∙ e) in
      (w.0 ∙ ap (ranged s t) (let z : 0 + before ≡ before = omega arith in z), λ j lt. w.1 j (omega arith) (omega arith))

  -- those behind it
  second_part : (t : Words) (r : Ranged) → operations s.shapes (ops_of s) (drop before (ops_of s)) (ranged s t before).results (ranged s t before).words ≡ is r → (r ≡ ranged s t (count_of s)) × ((j : ℕ) → before ≤ j → j < count_of s → Defined s t j)
  second_part t r e =
      let more = count_of s - before in
      let all : take more (drop before (ops_of s)) ≡ drop before (ops_of s) = take_all more (drop before (ops_of s)) (let l = length-drop before (ops_of s) in let k = length-map s.body.ops (λ (p : TimedOp). p.op) in omega arith) in
      let w = walk s t more before (omega arith) r (ap (λ xs. operations s.shapes (ops_of s) xs (ranged s t before).results (ranged s t before).words) all ∙ e) in
      (w.0 ∙ ap (ranged s t) (let z : before + more ≡ count_of s = omega arith in z), λ j low high. w.1 j low (omega arith))

  carried_on : (t : Words) → with_outs s.carried (ranged s t (count_of s)) ≡ next s t
  carried_on t = (λ i. record { variables = outs_inner s t (count_of s) (after s t (count_of s)).results s.carried t.variables i; memories = (after s t (count_of s)).memories })

  passes_is : (t : Words) → goes_round s.body.test (ranged s t before).words (ranged s t before).results ≡ passes_from s t
  passes_is t =
      round_is (inner s t before) (after s t before).results s.body.test
      ∙ ap (λ r. allows r s.body.test) (operand_inner s t before (after s t before).results)

  abbrev pub round : Words → ℕ → Ran Words Turn
  round = iteration s.shapes point tree

  -- what comes of one iteration: it is the last, or another one follows
  pub data Round : Words → ℕ → Ran Words Turn → Type 0 where
    last : (t : Words) (n : ℕ) (fails : passes_from s t ≡ false) (defined : (j : ℕ) → j < before → Defined s t j) → Round t n (ran [] (went over t n))
    stops : (t : Words) (holds : passes_from s t ≡ true) → Round t 0 (ran [] waiting)
    on : (t : Words) (n : ℕ) (holds : passes_from s t ≡ true) (defined : (j : ℕ) → j < count_of s → Defined s t j) → Round t (suc n) (ran (point ∷ []) (went again (next s t) n))
    breaks : (t : Words) (n : ℕ) (trace : List Point) (rule : UbRule) (at : Place) → Round t n (ran trace (undefined rule at))

  behind_test : (t : Words) (n : ℕ) (v : Valued Ranged) → passes_from s t ≡ true → ((j : ℕ) → j < before → Defined s t j) → operations s.shapes (ops_of s) (drop before (ops_of s)) (ranged s t before).results (ranged s t before).words ≡ v
      → Round t (suc n) (then_ (ran (point ∷ []) (went (tt {0}) (ranged s t before).words n)) (λ u t1 n1. valued v (λ r1 t2 n2. goes again (with_outs s.carried r1) n2) t1 n1))
  behind_test t n (faulty rule at) holds first e = breaks t (suc n) (point ∷ []) rule at
  behind_test t n (is r) holds first e =
      let second = second_part t r e in
      let all : (j : ℕ) → j < count_of s → Defined s t j = λ j lt. elim (cases_lt j before) [ inl low ↦ first j low | inr high ↦ second.1 j high lt ] in
      let same : next s t ≡ with_outs s.carried r = sym (carried_on t) ∙ ap (with_outs s.carried) (sym second.0) in
      subst (λ x. Round t (suc n) (ran (point ∷ []) (went again x n))) same (on t n holds all)

  at_point : (t : Words) (n : ℕ) → passes_from s t ≡ true → ((j : ℕ) → j < before → Defined s t j) → Round t n (reached point (iterated s.shapes tree (ranged s t before)) (ranged s t before).words n)
  at_point t zero holds first = stops t holds
  at_point t (suc n) holds first = behind_test t n (operations s.shapes (ops_of s) (drop before (ops_of s)) (ranged s t before).results (ranged s t before).words) holds first refl

  after_first : (t : Words) (n : ℕ) (r : Ranged) → r ≡ ranged s t before → ((j : ℕ) → j < before → Defined s t j)
      → Round t n (if goes_round s.body.test r.words r.results then reached point (iterated s.shapes tree r) r.words n else goes over r.words n)
  after_first t n r e first =
      subst (λ (q : Ranged). Round t n (if goes_round s.body.test q.words q.results then reached point (iterated s.shapes tree q) q.words n else goes over q.words n)) (sym e)
      (elim (cases_Bool (passes_from s t)) [
        | inl holds ↦ subst (Round t n) (sym (cond-true _ _ _ (passes_is t ∙ holds))) (at_point t n holds first)
        | inr fails ↦ subst (Round t n) (sym (cond-false _ _ _ (passes_is t ∙ fails) ∙ ap (λ x. goes over x n) (inner_same t))) (last t n fails first)
      ])

  round_with : (t : Words) (n : ℕ) (v : Valued Ranged) → operations s.shapes (ops_of s) (take before (ops_of s)) [] t ≡ v
      → Round t n (valued v (λ r t1 n1. if goes_round s.body.test r.words r.results then reached point (iterated s.shapes tree r) r.words n1 else goes over r.words n1) t n)
  round_with t n (faulty rule at) e = breaks t n [] rule at
  round_with t n (is r) e = (let f = first_part t r e in after_first t n r f.0 f.1)

  pub one_round : (t : Words) (n : ℕ) → Round t n (round t n)
  one_round t n = round_with t n (operations s.shapes (ops_of s) (take before (ops_of s)) [] t) refl
