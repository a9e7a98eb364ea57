-- Which gates are open, by the tests that are read cycle by cycle.
use Rattle.std.proofs.Common.{◌≡◌, ℕ, zero, suc, ◌+◌, ◌-◌, ◌*◌, ◌/◌, ◌<◌, ◌≤◌, Bool, true, false, ◌&&◌, eqb, ◌%◌, ap₂, inl, inr, sym, ap, ◌∙◌, subst, arith}
use Rattle.std.proofs.lemmas.Bool.{cases_Bool, cases_lt, cases_eq, cond-true, cond-false, and_parts, and_from, lt-leb, le-leb}
use Rattle.clock_ir.specs.Flows.{is_at, known, place, holds_at, runs_at}
use Rattle.clock_runs.proofs.Numbers.{quotient, count, turn, is_at_true, count_more, count_same, place_same}
use Rattle.clock_runs.proofs.Settings.{Setting, flow}
use Rattle.clock_runs.proofs.Chains.{flow-time, flow-gates, flow-start}

-- the test of the iteration i, as it is read
abbrev pub clock_test : Setting → ℕ → Bool
clock_test s i = holds_at s.body (flow s (i * s.body.interval + known s.body)) (known s.body) s.body.test

-- no test up to that of the iteration i fails
abbrev pub IsOpen : Setting → ℕ → Type 0
IsOpen s i = (j : ℕ) → j ≤ i → clock_test s j ≡ true

-- the Bool says whether it is so
abbrev pub Tells : Bool → Type 0 → Type 0
Tells b P = (b ≡ true → P) × (P → b ≡ true)

module _ (s : Setting) (some : 0 < s.body.interval) where
  tests_here : (time q : ℕ) → time ≡ q * s.body.interval + known s.body → holds_at s.body (flow s time) (known s.body) s.body.test ≡ clock_test s q
  tests_here time q e = ap (λ x. holds_at s.body (flow s x) (known s.body) s.body.test) e

  gates_push : (time j : ℕ) → is_at s.body.interval (known s.body) time ≡ true →
      ((flow s (suc time)).gates 0 ≡ ((flow s time).gates 0 && holds_at s.body (flow s time) (known s.body) s.body.test))
      × ((flow s (suc time)).gates (suc j) ≡ (flow s time).gates j)
  gates_push time j on =
      let on' : is_at s.body.interval (known s.body) (flow s time).time ≡ true = ap (is_at s.body.interval (known s.body)) (flow-time s time) ∙ on in (
        ap (λ (f : ℕ → Bool). f 0) (flow-gates s time ∙ cond-true _ _ _ on'),
        ap (λ (f : ℕ → Bool). f (suc j)) (flow-gates s time ∙ cond-true _ _ _ on'),
      )

  gates_stay : (time j : ℕ) → is_at s.body.interval (known s.body) time ≡ false → (flow s (suc time)).gates j ≡ (flow s time).gates j
  gates_stay time j off =
      let off' : is_at s.body.interval (known s.body) (flow s time).time ≡ false = ap (is_at s.body.interval (known s.body)) (flow-time s time) ∙ off in
      ap (λ (f : ℕ → Bool). f j) (flow-gates s time ∙ cond-false _ _ _ off')

  no_test_yet : count s.body.interval (suc (known s.body)) 0 ≡ 0
  no_test_yet = (let w = some in quotient (0 + s.body.interval - suc (known s.body)) 0 s.body.interval (0 + s.body.interval - suc (known s.body)) (omega arith) (omega arith))

  -- a test that is known in a cycle has come in the next one
  comes : (time : ℕ) → is_at s.body.interval (suc (known s.body)) (suc time) ≡ is_at s.body.interval (known s.body) time
  comes time =
      ap₂ (λ x y. x && y)
      (elim (cases_lt time (known s.body)) [
        | inl lt ↦ lt-leb (suc (known s.body)) (suc time) (omega arith) ∙ sym (lt-leb (known s.body) time lt)
        | inr ge ↦ le-leb (suc (known s.body)) (suc time) (omega arith) ∙ sym (le-leb (known s.body) time ge)
      ])
      (ap (λ x. eqb (x % s.body.interval) 0) (let e : suc time - suc (known s.body) ≡ time - known s.body = omega arith in e))

  -- behind all gates that came stand open ones
  gates_behind : (time j : ℕ) → count s.body.interval (suc (known s.body)) time ≡ j → (flow s time).gates j ≡ true
  gates_behind zero j e = (flow-start s).1 j
  gates_behind (suc time) zero e =
      elim (cases_Bool (is_at s.body.interval (known s.body) time)) [
        | inl on ↦
            let more = count_more s.body.interval (suc (known s.body)) (turn s.body.interval (known s.body) time) time some (let at = is_at_true s.body.interval (known s.body) time on in omega arith) in
            absurd (omega arith)
        | inr off ↦ gates_stay time 0 off ∙ gates_behind time 0 (sym (count_same s.body.interval (suc (known s.body)) time some (comes time ∙ off)) ∙ e)
      ]
  gates_behind (suc time) (suc j) e =
      elim (cases_Bool (is_at s.body.interval (known s.body) time)) [
        | inl on ↦
            let more = count_more s.body.interval (suc (known s.body)) (turn s.body.interval (known s.body) time) time some (let at = is_at_true s.body.interval (known s.body) time on in omega arith) in
            (gates_push time j on).1 ∙ gates_behind time j (omega arith)
        | inr off ↦ gates_stay time (suc j) off ∙ gates_behind time (suc j) (sym (count_same s.body.interval (suc (known s.body)) time some (comes time ∙ off)) ∙ e)
      ]

  -- the gate of an iteration is open where no test so far fails
  opens : (g b : Bool) (q : ℕ) (x : Bool) → x ≡ clock_test s q → g ≡ (b && x) →
      (((j : ℕ) → j < q → clock_test s j ≡ true) → b ≡ true) → (b ≡ true → (j : ℕ) → j < q → clock_test s j ≡ true) → Tells g (IsOpen s q)
  opens g b q x is e from to = (
    (λ on j le.
        let parts = and_parts b x (sym e ∙ on) in
        elim (cases_lt j q) [
          | inl lt ↦ to parts.0 j lt
          | inr ge ↦ (let same : j ≡ q = omega arith in ap (clock_test s) same ∙ sym is ∙ parts.1)
        ]),
    (λ wide. e ∙ and_from b x (from (λ j lt. wide j (omega arith))) (is ∙ wide q (omega arith))),
  )

  gates_tell : (time j i : ℕ) → count s.body.interval (suc (known s.body)) time ≡ i + suc j → Tells ((flow s time).gates j) (IsOpen s i)
  gates_tell zero j i e = absurd (let z = no_test_yet in omega arith)
  gates_tell (suc time) zero i e =
      elim (cases_Bool (is_at s.body.interval (known s.body) time)) [
        | inl on ↦
            let q = turn s.body.interval (known s.body) time in
            let at = is_at_true s.body.interval (known s.body) time on in
            let more = count_more s.body.interval (suc (known s.body)) q time some (omega arith) in
            let same : q ≡ i = omega arith in
            subst (λ i. Tells ((flow s (suc time)).gates 0) (IsOpen s i)) same
            (opens ((flow s (suc time)).gates 0) ((flow s time).gates 0) q (holds_at s.body (flow s time) (known s.body) s.body.test) (tests_here time q at) (gates_push time 0 on).0
            (λ h. elim (cases_eq q 0) [
              | inl none_ ↦ gates_behind time 0 (more.1 ∙ none_)
              | inr some_ ↦ (gates_tell time 0 (q - 1) (omega arith)).1 (λ j le. h j (omega arith))
            ])
            (λ wide j lt. (gates_tell time 0 (q - 1) (omega arith)).0 wide j (omega arith)))
        | inr off ↦
            subst (λ g. Tells g (IsOpen s i)) (sym (gates_stay time 0 off))
            (gates_tell time 0 i (sym (count_same s.body.interval (suc (known s.body)) time some (comes time ∙ off)) ∙ e))
      ]
  gates_tell (suc time) (suc j) i e =
      elim (cases_Bool (is_at s.body.interval (known s.body) time)) [
        | inl on ↦
            let more = count_more s.body.interval (suc (known s.body)) (turn s.body.interval (known s.body) time) time some (let at = is_at_true s.body.interval (known s.body) time on in omega arith) in
            subst (λ g. Tells g (IsOpen s i)) (sym (gates_push time j on).1) (gates_tell time j i (omega arith))
        | inr off ↦
            subst (λ g. Tells g (IsOpen s i)) (sym (gates_stay time (suc j) off))
            (gates_tell time (suc j) i (sym (count_same s.body.interval (suc (known s.body)) time some (comes time ∙ off)) ∙ e))
      ]

  -- the gate of an iteration at a time at which its test is known
  pub gate_tells : (i t time : ℕ) → time ≡ i * s.body.interval + t → known s.body ≤ t → Tells (runs_at s.body (flow s time) t) (IsOpen s i)
  gate_tells i t time at le =
      let p = place s.body.interval (known s.body) t 0 in
      let same : suc time + s.body.interval - suc (known s.body) ≡ i * s.body.interval + t + s.body.interval - known s.body = omega arith in
      subst (λ (g : ℕ → Bool). Tells (g p) (IsOpen s i)) (flow-gates s time)
      (gates_tell (suc time) p i (ap (λ x. x / s.body.interval) same ∙ place_same s.body.interval (known s.body) t i some le))
