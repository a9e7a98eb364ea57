-- Each load of an iteration that runs finds the word that it finds one after another.
use Rattle.std.proofs.Common.{◌≡◌, ℕ, zero, suc, ◌+◌, ◌*◌, ◌<◌, ◌≤◌, ◌⊎◌, List, Bool, true, map, inl, inr, refl, sym, ap, ap₂, ◌∙◌, subst, arith, le_refl, le_of_lt}
use Rattle.std.proofs.lemmas.Bool.{cases_Bool, cases_lt, cases_order, cond-true, cond-false, and_parts, and_from, both_ways}
use Rattle.ir_core.specs.Bodies.{Words, first_bits, stored}
use Rattle.clock_ir.specs.Flows.{is_at, runs_at, starts}
use Rattle.clock_runs.proofs.Effects.{Memories, storing, sort_of, Stores, value_by, stores_storing, memory_step, value_same}
use Rattle.clock_runs.proofs.Settings.{Setting, op_at, ops_of, count_of, sort_at, allows, after, moment, passes, Begins, Runs, reading, result, StoresAt, flow, time_of, val, IsTimely, IsBefore, KeepsOrder}
use Rattle.clock_runs.proofs.Numbers.{turn, is_at_true, is_at_sure, later_turn}
use Rattle.clock_runs.proofs.Chains.{flow-time, flow-start}
use Rattle.clock_runs.proofs.Iterations.{after_memories, after_none, moment_memories, moment_start, begins_more, begins_less}
use Rattle.clock_runs.proofs.Same.{Same, runs_earlier, runs_before, open_begins, begins_open, maps_same, guards_same}
use Rattle.clock_runs.proofs.Storing.{reading_at, computed_is, stores, stores_none, stores_more, stores_all}
use Rattle.clock_runs.proofs.Writes.{Stems, stems}

-- operation k stores to this word in this cycle
abbrev pub ActsAt : Setting → ℕ → ℕ → ℕ → ℕ → Type 0
ActsAt s memory address time k =
    (starts s.body (flow s time) (op_at s k) ≡ true)
    × Stores s.shapes (op_at s k).op (sort_at s k) (allows (reading_at s time k) (op_at s k).op.guard) (map (reading_at s time k) (op_at s k).op.args) memory address

abbrev pub acts_word : Setting → ℕ → ℕ → ℕ
acts_word s time k = stored (map (reading_at s time k) (op_at s k).op.args)

abbrev pub seq_word : Setting → ℕ → ℕ → ℕ
seq_word s i k = stored (map (reading s i k) (op_at s k).op.args)

along : (P : Bool → List ℕ → Type 0) (b c : Bool) (xs ys : List ℕ) → b ≡ c → xs ≡ ys → P b xs → P c ys
along P b c xs ys e f h = subst (λ v. P v ys) e (subst (λ v. P b v) f h)

-- the words stem from stores, cycle by cycle and one after another
module _ (s : Setting) (memory address : ℕ) where
  abbrev at : Memories → ℕ
  at f = f memory address

  clock_row : (time : ℕ) → stores s (suc time) 0 memory address ≡ stores s time (count_of s) memory address
  clock_row time = ap at (stores_none s (suc time) ∙ stores_all s time)

  clock_step : (time k : ℕ) → k < count_of s →
      (ActsAt s memory address time k × (stores s time (suc k) memory address ≡ acts_word s time k))
      ⊎ ((ActsAt s memory address time k → ⊥) × (stores s time (suc k) memory address ≡ stores s time k memory address))
  clock_step time k lt =
      let more = stores_more s time k lt in
      elim (cases_Bool (starts s.body (flow s time) (op_at s k))) [
        | inr off ↦ inr ((λ h. both_ways _ off h.0), ap at (more ∙ cond-false _ _ _ off))
        | inl on ↦
            let is = ap at (more ∙ cond-true _ _ _ on) in
            elim (memory_step s.shapes (op_at s k).op (sort_at s k) (allows (reading_at s time k) (op_at s k).op.guard) (map (reading_at s time k) (op_at s k).op.args) (stores s time k) memory address) [
              | inl w ↦ inl ((on, w.0), is ∙ w.1)
              | inr n ↦ inr ((λ h. n.0 h.1), is ∙ n.1)
            ]
      ]

  pub clock_stems : (time : ℕ) → Stems (count_of s) (λ time k. stores s time k memory address) (ActsAt s memory address) (acts_word s) time 0
  clock_stems time = stems (count_of s) (λ time k. stores s time k memory address) (ActsAt s memory address) (acts_word s) clock_row clock_step time 0 (omega arith)

  seq_row : (i : ℕ) → (after s (moment s (suc i)) 0).memories memory address ≡ (after s (moment s i) (count_of s)).memories memory address
  seq_row i = ap at (after_none s (moment s (suc i)) ∙ moment_memories s i)

  seq_step : (i k : ℕ) → k < count_of s →
      (StoresAt s i k memory address × ((after s (moment s i) (suc k)).memories memory address ≡ seq_word s i k))
      ⊎ ((StoresAt s i k memory address → ⊥) × ((after s (moment s i) (suc k)).memories memory address ≡ (after s (moment s i) k).memories memory address))
  seq_step i k lt =
      let is = ap at (after_memories s (moment s i) k) in
      elim (memory_step s.shapes (op_at s k).op (sort_at s k) (allows (reading s i k) (op_at s k).op.guard) (map (reading s i k) (op_at s k).op.args) (after s (moment s i) k).memories memory address) [
        | inl w ↦ inl (w.0, is ∙ w.1)
        | inr n ↦ inr (n.0, is ∙ n.1)
      ]

  pub seq_stems : (i k : ℕ) → k ≤ count_of s → Stems (count_of s) (λ i k. (after s (moment s i) k).memories memory address) (λ i k. StoresAt s i k memory address) (seq_word s) i k
  seq_stems i k h = stems (count_of s) (λ i k. (after s (moment s i) k).memories memory address) (λ i k. StoresAt s i k memory address) (seq_word s) seq_row seq_step i k h

  both_start : stores s 0 0 memory address ≡ (after s (moment s 0) 0).memories memory address
  both_start = ap at (stores_none s 0 ∙ (flow-start s).0 ∙ sym (after_none s (moment s 0) ∙ ap (λ (t : Words). t.memories) (moment_start s)))

-- of two places, one comes before the other
positions : (i k j n : ℕ) → IsBefore i k j n ⊎ (((i ≡ j) × (k ≡ n)) ⊎ IsBefore j n i k)
positions i k j n = elim (cases_order i j) [
  | inl e ↦ elim (cases_order k n) [
    | inl f ↦ inr (inl (e, f))
    | inr o ↦ elim o [ inl lt ↦ inl (inr (e, lt)) | inr gt ↦ inr (inr (inr (sym e, gt))) ]
  ]
  | inr o ↦ elim o [ inl lt ↦ inl (inl lt) | inr gt ↦ inr (inr (inl gt)) ]
]

before_cycle : (s q b : ℕ) → IsBefore s q b 0 → s < b
before_cycle s q b h = elim h [ inl lt ↦ lt | inr e ↦ absurd (let k = e.1 in omega arith) ]

module _ (s : Setting) (w : IsTimely s) (b : ℕ) (same : Same s b) where
  -- a store that acts belongs to an iteration that runs
  acting : (memory address time k : ℕ) → time ≤ b → k < count_of s → ActsAt s memory address time k →
      (i : ℕ) × Runs s i k × (time ≡ time_of s i k) × StoresAt s i k memory address × Begins s (suc i) × (acts_word s time k ≡ seq_word s i k)
  acting memory address time k le lt a =
      let f = flow s time in
      let start = (op_at s k).start in
      let i = turn s.body.interval start f.time in
      let parts = and_parts (is_at s.body.interval start f.time) (runs_at s.body f start) a.0 in
      let at : time ≡ time_of s i k = sym (flow-time s time) ∙ is_at_true s.body.interval start f.time parts.0 in
      let store : sort_at s k ≡ storing = stores_storing s.shapes (op_at s k).op (sort_at s k) _ _ memory address a.1 in
      let later = w.test_before k lt store in
      let begins : Begins s (suc i) = open_begins s w b same time i start le at later.1 parts.1 in
      let runs : Runs s i k = runs_before s w i begins k lt in
      let le' : time_of s i k ≤ b = omega arith in
      let gs = guards_same s w b same i k time runs le' at in
      let ms = maps_same s w b same i k time runs le' at in
      (i, runs, at, along (λ v ys. Stores s.shapes (op_at s k).op (sort_at s k) v ys memory address) _ _ _ _ gs ms a.1, begins, ap stored ms)

  -- a store of an iteration that runs acts
  stored_acts : (memory address i k : ℕ) → Runs s i k → StoresAt s i k memory address → time_of s i k ≤ b → ActsAt s memory address (time_of s i k) k
  stored_acts memory address i k runs st le =
      let time = time_of s i k in
      let f = flow s time in
      let start = (op_at s k).start in
      let now : f.time ≡ i * s.body.interval + start = flow-time s time in
      let store : sort_at s k ≡ storing = stores_storing s.shapes (op_at s k).op (sort_at s k) _ _ memory address st in
      let later = w.test_before k runs.1 store in
      let on : passes s i ≡ true = elim runs.2 [ inl h ↦ absurd (omega arith) | inr h ↦ h ] in
      let begins = begins_more s i runs.0 on in
      let wide = begins_open s w b same time i start le refl later.1 begins in
      let gs = guards_same s w b same i k time runs le refl in
      let ms = maps_same s w b same i k time runs le refl in (
        and_from _ _ (is_at_sure s.body.interval w.interval i start f.time now) wide,
        along (λ v ys. Stores s.shapes (op_at s k).op (sort_at s k) v ys memory address) _ _ _ _ (sym gs) (sym ms) st,
      )

  -- The same stores to a word have come before: so it is the same word.
  pub same_word : (horizon : ℕ) → b ≤ horizon → KeepsOrder s horizon → (i k memory address : ℕ) → k ≤ count_of s →
      ((p q : ℕ) → q < count_of s → IsBefore p q i k → Runs s p q) →
      ((p q : ℕ) → Runs s p q → StoresAt s p q memory address → IsBefore p q i k → time_of s p q < b) →
      ((p q : ℕ) → Runs s p q → StoresAt s p q memory address → Begins s (suc p) → time_of s p q < b → IsBefore p q i k) →
      (flow s b).memories memory address ≡ (after s (moment s i) k).memories memory address
  same_word horizon within order i k memory address le ran sooner inside =
      ap (λ (f : Memories). f memory address) (sym (stores_none s b))
      ∙ elim (clock_stems s memory address b) [
        | inl c ↦
            let s_in = before_cycle c.0 c.1 b c.4 in
            let a = acting memory address c.0 c.1 (omega arith) c.2 c.3 in
            let at = a.2 in
            let p_in = inside a.0 c.1 a.1 a.3 a.4 (omega arith) in
            elim (seq_stems s memory address i k le) [
              | inl d ↦
                  let runs = ran d.0 d.1 d.2 d.4 in
                  let soon = sooner d.0 d.1 runs d.3 d.4 in
                  let acts_too = stored_acts memory address d.0 d.1 runs d.3 (omega arith) in
                  elim (positions a.0 c.1 d.0 d.1) [
                    | inl h ↦
                        let gap = order.store_after_store a.0 c.1 d.0 d.1 memory address (omega arith) (omega arith) a.1 runs h a.3 d.3 in
                        absurd (c.6 (time_of s d.0 d.1) d.1 d.2 acts_too (inl soon) (inl (omega arith)))
                    | inr o ↦ elim o [
                      | inl e ↦ c.5 ∙ a.5 ∙ ap₂ (seq_word s) e.0 e.1 ∙ sym d.5
                      | inr h ↦ absurd (d.6 a.0 c.1 c.2 a.3 p_in h)
                    ]
                  ]
              | inr d ↦ absurd (d.1 a.0 c.1 c.2 a.3 p_in)
            ]
        | inr c ↦
            elim (seq_stems s memory address i k le) [
              | inl d ↦
                  let runs = ran d.0 d.1 d.2 d.4 in
                  let soon = sooner d.0 d.1 runs d.3 d.4 in
                  absurd (c.1 (time_of s d.0 d.1) d.1 d.2 (stored_acts memory address d.0 d.1 runs d.3 (omega arith)) (inl soon))
              | inr d ↦ c.0 ∙ both_start s memory address ∙ sym d.0
            ]
      ]

module _ (s : Setting) (w : IsTimely s) (horizon : ℕ) (order : KeepsOrder s horizon) where
  value_kept : (i k : ℕ) → time_of s i k < horizon → Runs s i k → Same s (time_of s i k) → val s i k ≡ result s i k
  value_kept i k within runs same =
      let time = time_of s i k in
      let op = (op_at s k).op in
      let from = first_bits s.shapes.widths (ops_of s) op op.args in
      let gs = guards_same s w time same i k time runs (le_refl time) refl in
      let ms = maps_same s w time same i k time runs (le_refl time) refl in
      computed_is s k time
      ∙ ap₂ (λ v ys. value_by s.shapes op (sort_of op.kind) v from ys (flow s time).memories) gs ms
      ∙ value_same s.shapes op (sort_of op.kind) _ from _ _ _ (λ memory address loads.
      same_word s w time same horizon (omega arith) order i k memory address (le_of_lt runs.1)
      (λ p q lt h. elim h [
        | inl before ↦ (begins_less s i p (omega arith) runs.0, lt, inr (runs.0 p before))
        | inr e ↦ subst (λ j. Runs s j q) (sym e.0) (runs_earlier s w i k q runs e.1)
      ])
      (λ p q r st h.
      let turns : p * s.body.interval ≤ i * s.body.interval = later_turn s.body.interval p i (elim h [ inl lt ↦ le_of_lt lt | inr e ↦ (let z = e.0 in omega arith) ]) in
      let gap = order.load_after_store p q i k memory address (omega arith) (omega arith) r runs h st loads in
      omega arith)
      (λ p q r st begins lt. elim (positions p q i k) [
        | inl h ↦ h
        | inr o ↦ elim o [
          | inl e ↦ absurd (let f = ap₂ (time_of s) e.0 e.1 in omega arith)
          | inr h ↦ absurd (let gap = order.store_after_load i k p q memory address (omega arith) (omega arith) runs r h loads st in omega arith)
        ]
      ]))

  -- by the time at which they start
  pub same_all : (b : ℕ) → b ≤ horizon → Same s b
  same_all zero within i k runs lt = absurd (omega arith)
  same_all (suc b) within i k runs lt =
      elim (cases_lt (time_of s i k) b) [
        | inl h ↦ same_all b (omega arith) i k runs h
        | inr h ↦ (let e : b ≡ time_of s i k = omega arith in value_kept i k (omega arith) runs (subst (λ c. Same s c) e (same_all b (omega arith))))
      ]
