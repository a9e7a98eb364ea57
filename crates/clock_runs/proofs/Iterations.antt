-- One iteration after another: what the operations read.
use Rattle.std.proofs.Common.{◌≡◌, ◌≢◌, ℕ, zero, suc, ◌<◌, ◌≤◌, ◌==◌, List, [], ◌∷◌, ◌++◌, true, map, length, get_or, Option, Some, None, inl, inr, refl, sym, ap, ap₂, ◌∙◌, subst, arith}
use Rattle.std.proofs.lemmas.Bool.{cases_Bool, cases_lt, cond-true, cond-false, eqb-true}
use Rattle.std.proofs.lemmas.List.{length_push, get_or_push, get_or_append_left}
use Rattle.hls_base.specs.declared.number.OpId.{OpId}
use Rattle.ir_core.specs.declared.body.Operand.{Operand}
use Rattle.ir_core.specs.declared.body.Out.{Out}
use Rattle.dep_graph.specs.Offsets.{maker, result_of}
use Rattle.ir_core.specs.Bodies.{Words, operand, outs, word, with_word}
use Rattle.clock_runs.proofs.Settings.{Setting, count_of, value_at, memories_at, after, moment, passes, Begins, Each, AreOuts, IsReady, IsReadyIf, allows}

-- ---- within an iteration

after_results : (s : Setting) (t : Words) (k : ℕ) → (after s t (suc k)).results ≡ (after s t k).results ++ value_at s k (operand t (after s t k).results) (after s t k).memories ∷ []
unfolding after
after_results s t k = refl

pub after_memories : (s : Setting) (t : Words) (k : ℕ) → (after s t (suc k)).memories ≡ memories_at s k (operand t (after s t k).results) (after s t k).memories
unfolding after
after_memories s t k = refl

pub after_none : (s : Setting) (t : Words) → (after s t 0).memories ≡ t.memories
unfolding after
after_none s t = refl

no_results : (s : Setting) (t : Words) → (after s t 0).results ≡ []
unfolding after
no_results s t = refl

pub results_count : (s : Setting) (t : Words) (k : ℕ) → length (after s t k).results ≡ k
results_count s t zero = ap length (no_results s t)
results_count s t (suc k) =
    let one = length_push (after s t k).results (value_at s k (operand t (after s t k).results) (after s t k).memories) in
    let before = results_count s t k in
    ap length (after_results s t k) ∙ (let e : length ((after s t k).results ++ value_at s k (operand t (after s t k).results) (after s t k).memories ∷ []) ≡ suc k = omega arith in e)

-- a result stays as it was made
pub results_at : (s : Setting) (t : Words) (j k : ℕ) → j < k → get_or (after s t k).results j 0 ≡ value_at s j (operand t (after s t j).results) (after s t j).memories
results_at s t j zero h = absurd (omega arith)
results_at s t j (suc k) h =
    let count = results_count s t k in
    let made = value_at s k (operand t (after s t k).results) (after s t k).memories in
    ap (λ l. get_or l j 0) (after_results s t k)
    ∙ elim (cases_lt j k) [
      | inl lt ↦ get_or_append_left (after s t k).results (made ∷ []) 0 j (omega arith) ∙ results_at s t j k lt
      | inr ge ↦
          let e : k ≡ j = omega arith in
          let at : length (after s t k).results ≡ j = omega arith in
          get_or_push (after s t k).results made 0 j at ∙ ap (λ k. value_at s k (operand t (after s t k).results) (after s t k).memories) e
    ]

-- ---- from iteration to iteration

pub moment_start : (s : Setting) → moment s 0 ≡ s.start
unfolding moment
moment_start s = refl

pub moment_memories : (s : Setting) (i : ℕ) → (moment s (suc i)).memories ≡ (after s (moment s i) (count_of s)).memories
unfolding moment
moment_memories s i = refl

moment_variables : (s : Setting) (i : ℕ) → (moment s (suc i)).variables ≡ outs s.carried (moment s i) (after s (moment s i) (count_of s)).results (moment s i).variables
unfolding moment
moment_variables s i = refl

-- the value that a variable with this maker takes
abbrev pub taken_over : Option OpId → ℕ → List ℕ → ℕ
taken_over None old results = old
taken_over (Some j) old results = get_or results j.0 0

outs_other : (xs : List Out) (t : Words) (results : List ℕ) (f : ℕ → ℕ) (v : ℕ) → Each (λ (y : Out). y.variable.0 ≢ v) xs → outs xs t results f v ≡ f v
outs_other [] t results f v h = refl
outs_other (x ∷ xs) t results f v h =
    outs_other xs t results (with_word f x.variable.0 (operand t results x.value)) v h.1
    ∙ elim (cases_Bool (x.variable.0 == v)) [
      | inl on ↦ absurd (h.0 (eqb-true x.variable.0 v on))
      | inr off ↦ cond-false _ _ _ off
    ]

pub outs_maker : (xs : List Out) (t : Words) (results : List ℕ) (f : ℕ → ℕ) (v : ℕ) → AreOuts xs → outs xs t results f v ≡ taken_over (maker xs v) (f v) results
outs_maker [] t results f v h = refl
outs_maker (x ∷ xs) t results f v h =
    let w = operand t results x.value in
    elim (cases_Bool (x.variable.0 == v)) [
      | inl on ↦
          let same : x.variable.0 ≡ v = eqb-true x.variable.0 v on in
          outs_other xs t results (with_word f x.variable.0 w) v (subst (λ n. Each (λ (y : Out). y.variable.0 ≢ n) xs) same h.1)
          ∙ cond-true _ _ _ on
          ∙ ap (word t results) h.0.1
          ∙ sym (ap (λ o. taken_over o (f v) results) (cond-true _ _ _ on ∙ ap result_of h.0.1))
      | inr off ↦
          outs_maker xs t results (with_word f x.variable.0 w) v h.2
          ∙ ap (λ old. taken_over (maker xs v) old results) (cond-false _ _ _ off)
          ∙ sym (ap (λ o. taken_over o (f v) results) (cond-false _ _ _ off))
    ]

pub variable_next : (s : Setting) → AreOuts s.carried → (i v : ℕ) → (moment s (suc i)).variables v ≡ taken_over (maker s.carried v) ((moment s i).variables v) (after s (moment s i) (count_of s)).results
variable_next s h i v =
    ap (λ (f : ℕ → ℕ). f v) (moment_variables s i)
    ∙ outs_maker s.carried (moment s i) (after s (moment s i) (count_of s)).results (moment s i).variables v h

pub variable_fixed : (s : Setting) → AreOuts s.carried → (v : ℕ) → maker s.carried v ≡ None → (i : ℕ) → (moment s i).variables v ≡ s.start.variables v
variable_fixed s h v e zero = ap (λ (t : Words). t.variables v) (moment_start s)
variable_fixed s h v e (suc i) =
    variable_next s h i v
    ∙ ap (λ o. taken_over o ((moment s i).variables v) (after s (moment s i) (count_of s)).results) e
    ∙ variable_fixed s h v e i

pub begins_more : (s : Setting) (i : ℕ) → Begins s i → passes s i ≡ true → Begins s (suc i)
begins_more s i b on j lt = elim (cases_lt j i) [
  | inl h ↦ b j h
  | inr h ↦ (let e : j ≡ i = omega arith in ap (passes s) e ∙ on)
]

pub begins_less : (s : Setting) (i j : ℕ) → j ≤ i → Begins s i → Begins s j
begins_less s i j le b n lt = b n (omega arith)

-- ---- equal readings give equal arguments and guards

pub map_same : (P : Operand → Type 0) (f g : Operand → ℕ) → ((x : Operand) → P x → f x ≡ g x) → (xs : List Operand) → Each P xs → map f xs ≡ map g xs
map_same P f g h [] all = refl
map_same P f g h (x ∷ xs) all = ap₂ (λ y ys. y ∷ ys) (h x all.0) (map_same P f g h xs all.1)

pub allows_same : (s : Setting) (k time : ℕ) (f g : Operand → ℕ) → ((x : Operand) → IsReady s k time x → f x ≡ g x) → (x : Option Operand) → IsReadyIf s k time x → allows f x ≡ allows g x
allows_same s k time f g h None r = refl
allows_same s k time f g h (Some x) r = ap (λ y. allows (λ z. y) (Some x)) (h x r)
