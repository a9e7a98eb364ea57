-- What becomes known of the iterations of a loop in one cycle.
use Rattle.std.proofs.Common.{◌≡◌, ℕ, zero, suc, ◌+◌, ◌*◌, ◌<◌, ◌≤◌, ◌⊎◌, Bool, true, false, not, ◌&&◌, refl, sym, ap, ◌∙◌, subst, inl, inr, arith}
use Rattle.std.specs.Prelude.{nat_le}
use Rattle.std.proofs.lemmas.Bool.{cases_Bool, cases_lt, cases_eq, and_from, and_parts, le-leb, lt-leb, leb-true, leb-false, false≢true, cond-true, cond-false, not_from_false}
use Rattle.ir_core.specs.Bodies.{Shapes, Words}
use Rattle.clock_ir.specs.Flows.{TimedBody, Flow, known, is_at, place, pushed, holds_at, gates_now, runs_at, tick, first_flow}
use Rattle.clock_runs.proofs.Numbers.{turn, is_at_sure, is_at_true, later_turn}
use Rattle.circuit_agreement.specs.CircuitFlow.LoopGates.Iterations.{tests, HasRun}
use Rattle.circuit_agreement.proofs.LoopGates.Times.{le_agree, tested_more, tested_same, tested_none, tested_place}

-- ---- one cycle

-- an iteration is tested in this cycle
pub record Tested (b : TimedBody) (f : Flow) : Type 0 where
  pub number : ℕ
  pub now : f.time ≡ number * b.interval + known b
  pub before : tests b f.time ≡ number
  pub behind : tests b (suc f.time) ≡ suc number
  pub first : gates_now b f 0 ≡ (f.gates 0 && holds_at b f (known b) b.test)
  pub others : (k : ℕ) → gates_now b f (suc k) ≡ f.gates k

-- none is
pub record Untested (b : TimedBody) (f : Flow) : Type 0 where
  pub same : (k : ℕ) → gates_now b f k ≡ f.gates k
  pub still : tests b (suc f.time) ≡ tests b f.time

pub is_tested_now : (b : TimedBody) (f : Flow) → 0 < b.interval → is_at b.interval (known b) f.time ≡ true → Tested b f
is_tested_now b f some on =
    let now : f.time ≡ turn b.interval (known b) f.time * b.interval + known b = is_at_true b.interval (known b) f.time on in
    let counts = tested_more b.interval (known b) (turn b.interval (known b) f.time) f.time some now in
    let is : gates_now b f ≡ pushed (f.gates 0 && holds_at b f (known b) b.test) f.gates = cond-true _ _ _ on in
    record {
      number = turn b.interval (known b) f.time;
      now = now;
      before = counts.1;
      behind = counts.0;
      first = ap (λ (g : ℕ → Bool). g 0) is;
      others = λ k. ap (λ (g : ℕ → Bool). g (suc k)) is;
    }

pub is_quiet_now : (b : TimedBody) (f : Flow) → 0 < b.interval → is_at b.interval (known b) f.time ≡ false → Untested b f
is_quiet_now b f some off =
    let is : gates_now b f ≡ f.gates = cond-false _ _ _ off in
    record { same = λ k. ap (λ (g : ℕ → Bool). g k) is; still = tested_same b.interval (known b) f.time some off }

-- how many iterations run by the end of the cycle, where so many did before
pub record Next (b : TimedBody) (f : Flow) (j : ℕ) : Type 0 where
  pub iterations : ℕ
  pub gates : (k : ℕ) → gates_now b f k ≡ nat_le (tests b (suc f.time)) (iterations + k)
  pub among : iterations ≤ tests b (suc f.time)
  pub grows : (iterations ≡ j) ⊎ ((iterations ≡ suc j) × (f.time ≡ j * b.interval + known b))
  pub all : holds_at b f (known b) b.test ≡ true → j ≡ tests b f.time → iterations ≡ tests b (suc f.time)

next_untested : (b : TimedBody) (exit : ℕ) (f : Flow) (j : ℕ) → HasRun b exit f j → Untested b f → Next b f j
next_untested b exit f j h u = record {
  iterations = j;
  gates = λ k. u.same k ∙ (h.gates k ∙ ap (λ n. nat_le n (j + k)) (sym u.still));
  among = subst (λ n. j ≤ n) (sym u.still) h.among;
  grows = inl refl;
  all = λ holds e. e ∙ sym u.still;
}

next_open : (b : TimedBody) (exit : ℕ) (f : Flow) (j : ℕ) → HasRun b exit f j → (t : Tested b f) → (f.gates 0 && holds_at b f (known b) b.test) ≡ true → Next b f j
next_open b exit f j h t on = record {
  iterations = suc j;
  gates = gates_of;
  among = subst (λ n. suc j ≤ n) (sym t.behind) (omega (arith, same));
  grows = inr (refl, t.now ∙ ap (λ n. n * b.interval + known b) (sym same));
  all = λ holds e. ap suc same ∙ sym t.behind;
}
  where
    open_ : f.gates 0 ≡ true
    open_ = (and_parts (f.gates 0) (holds_at b f (known b) b.test) on).0

    same : j ≡ t.number
    same =
        let few : tests b f.time ≤ j + 0 = leb-true (tests b f.time) (j + 0) (sym (h.gates 0) ∙ open_) in
        let more : j ≤ tests b f.time = h.among in
        let is : tests b f.time ≡ t.number = t.before in
        omega (arith, few, more, is)

    gates_of : (k : ℕ) → gates_now b f k ≡ nat_le (tests b (suc f.time)) (suc j + k)
    gates_of zero = t.first ∙ (on ∙ sym (le-leb (tests b (suc f.time)) (suc j + 0) (let e : tests b (suc f.time) ≡ suc t.number = t.behind in omega (arith, e, same))))
    gates_of (suc k) =
        let e : tests b (suc f.time) ≡ suc t.number = t.behind in
        let e' : tests b f.time ≡ t.number = t.before in
        t.others k ∙ (h.gates k ∙ le_agree (tests b f.time) (j + k) (tests b (suc f.time)) (suc j + suc k) (λ le. omega (arith, e, same)) (λ le. omega (arith, e', same)))

next_shut : (b : TimedBody) (exit : ℕ) (f : Flow) (j : ℕ) → HasRun b exit f j → (t : Tested b f) → (f.gates 0 && holds_at b f (known b) b.test) ≡ false → Next b f j
next_shut b exit f j h t off = record {
  iterations = j;
  gates = gates_of;
  among = few;
  grows = inl refl;
  all = λ holds e. absurd (false≢true (sym off ∙ and_from (f.gates 0) (holds_at b f (known b) b.test) (h.gates 0 ∙ le-leb (tests b f.time) (j + 0) (omega (arith, e))) holds));
}
  where
    few : j ≤ tests b (suc f.time)
    few =
        let more : j ≤ tests b f.time = h.among in
        let e : tests b (suc f.time) ≡ suc t.number = t.behind in
        let e' : tests b f.time ≡ t.number = t.before in
        omega (arith, more, e, e')

    gates_of : (k : ℕ) → gates_now b f k ≡ nat_le (tests b (suc f.time)) (j + k)
    gates_of zero =
        let more : j ≤ tests b f.time = h.among in
        let e : tests b (suc f.time) ≡ suc t.number = t.behind in
        let e' : tests b f.time ≡ t.number = t.before in
        t.first ∙ (off ∙ sym (lt-leb (tests b (suc f.time)) (j + 0) (omega (arith, more, e, e'))))
    gates_of (suc k) =
        let e : tests b (suc f.time) ≡ suc t.number = t.behind in
        let e' : tests b f.time ≡ t.number = t.before in
        t.others k ∙ (h.gates k ∙ le_agree (tests b f.time) (j + k) (tests b (suc f.time)) (j + suc k) (λ le. omega (arith, e, e', le)) (λ le. omega (arith, e, e', le)))

pub next : (b : TimedBody) (exit : ℕ) (f : Flow) (j : ℕ) → 0 < b.interval → HasRun b exit f j → Next b f j
next b exit f j some h =
    elim (cases_Bool (is_at b.interval (known b) f.time)) [
      | inl on ↦
          let t : Tested b f = is_tested_now b f some on in
          elim (cases_Bool (f.gates 0 && holds_at b f (known b) b.test)) [ inl wide ↦ next_open b exit f j h t wide | inr shut ↦ next_shut b exit f j h t shut ]
      | inr off ↦ next_untested b exit f j h (is_quiet_now b f some off)
    ]

-- ---- which iteration runs

module _ (b : TimedBody) (exit : ℕ) (f : Flow) (j : ℕ) (some : 0 < b.interval) (h : HasRun b exit f j) (known_first : known b ≤ exit) (n : Next b f j) where
  pub runs_is : (a t : ℕ) → known b ≤ t → f.time ≡ a * b.interval + t → runs_at b f t ≡ nat_le (suc a) n.iterations
  runs_is a t le at =
      let m : ℕ = place b.interval (known b) t 0 in
      let e : tests b (suc f.time) ≡ a + suc m = tested_place b.interval (known b) t a f.time some le at in
      n.gates m ∙ le_agree (tests b (suc f.time)) (n.iterations + m) (suc a) n.iterations (λ less. omega (arith, e, less)) (λ less. omega (arith, e, less))

  grown : j ≤ n.iterations
  grown = elim n.grows [ inl same ↦ omega (arith, same) | inr more ↦ (let e = more.0 in omega (arith, e)) ]

  -- the loop is left in this cycle
  abbrev pub left : Bool
  left = is_at b.interval exit f.time && not (runs_at b f exit)

  shut_if : (x : Bool) → not x ≡ true → x ≡ false
  shut_if true e = absurd (false≢true e)
  shut_if false e = refl

  pub left_then : left ≡ true → (f.time ≡ j * b.interval + exit) × (n.iterations ≡ j)
  left_then e =
      let parts = and_parts (is_at b.interval exit f.time) (not (runs_at b f exit)) e in
      let a : ℕ = turn b.interval exit f.time in
      let at : f.time ≡ a * b.interval + exit = is_at_true b.interval exit f.time parts.0 in
      let shut : nat_le (suc a) n.iterations ≡ false = sym (runs_is a exit known_first at) ∙ shut_if (runs_at b f exit) parts.1 in
      let few = leb-false (suc a) n.iterations shut in
      let most : f.time ≤ j * b.interval + exit = h.before_exit in
      let up : j ≤ n.iterations = grown in
      let early : a ≤ j = elim (cases_lt j a) [
        | inl less ↦
            let far : suc j * b.interval ≤ a * b.interval = later_turn b.interval (suc j) a less in
            let wide : suc j * b.interval ≡ j * b.interval + b.interval = omega arith in
            absurd (omega (arith, far, wide, at, most, some))
        | inr not_less ↦ omega (arith, not_less)
      ] in
      let same : a ≡ j = omega (arith, few, up, early) in
      (at ∙ ap (λ k. k * b.interval + exit) same, omega (arith, few, up, early))

  pub left_from : f.time ≡ j * b.interval + exit → n.iterations ≡ j → left ≡ true
  left_from at same =
      and_from _ _ (is_at_sure b.interval some j exit f.time at)
      (not_from_false (runs_at b f exit) (runs_is j exit known_first at ∙ lt-leb (suc j) n.iterations (omega (arith, same))))

  -- else the first iteration that does not run has not been at its exit by the end of the cycle
  pub still_before : left ≡ false → suc f.time ≤ n.iterations * b.interval + exit
  still_before off =
      let most : f.time ≤ j * b.interval + exit = h.before_exit in
      elim n.grows [
        | inl same ↦
            elim (cases_eq f.time (j * b.interval + exit)) [
              | inl last ↦ absurd (false≢true (sym off ∙ left_from last same))
              | inr other ↦ subst (λ k. suc f.time ≤ k * b.interval + exit) (sym same) (omega (arith, most, other))
            ]
        | inr more ↦
            let wide : suc j * b.interval ≡ j * b.interval + b.interval = omega arith in
            let at : f.time ≡ j * b.interval + known b = more.1 in
            subst (λ k. suc f.time ≤ k * b.interval + exit) (sym more.0) (omega (arith, wide, at, known_first, some))
      ]

-- ---- the flow behind the cycle

pub tick_time : (shapes : Shapes) (b : TimedBody) (f : Flow) → (tick shapes b f).time ≡ suc f.time
unfolding tick
tick_time shapes b f = refl

pub tick_gates : (shapes : Shapes) (b : TimedBody) (f : Flow) → (tick shapes b f).gates ≡ gates_now b f
unfolding tick
tick_gates shapes b f = refl

pub first_time : (b : TimedBody) (t : Words) → (first_flow b t).time ≡ 0
unfolding first_flow
first_time b t = refl

pub first_gates : (b : TimedBody) (t : Words) (k : ℕ) → (first_flow b t).gates k ≡ true
unfolding first_flow
first_gates b t k = refl

-- so many iterations run as it begins
pub has_run_first : (b : TimedBody) (exit : ℕ) (t : Words) → 0 < b.interval → HasRun b exit (first_flow b t) 0
has_run_first b exit t some =
    let now : (first_flow b t).time ≡ 0 = first_time b t in
    let none : tests b (first_flow b t).time ≡ 0 = ap (tests b) now ∙ tested_none b.interval (known b) some in
    record {
      gates = λ k. first_gates b t k ∙ sym (le-leb (tests b (first_flow b t).time) (0 + k) (omega (arith, none)));
      among = omega (arith, none);
      before_exit = omega (arith, now);
    }

pub has_run_next : (shapes : Shapes) (b : TimedBody) (exit : ℕ) (f : Flow) (j : ℕ) → 0 < b.interval → HasRun b exit f j → known b ≤ exit → (n : Next b f j)
    → (is_at b.interval exit f.time && not (runs_at b f exit)) ≡ false → HasRun b exit (tick shapes b f) n.iterations
has_run_next shapes b exit f j some h known_first n off =
    let now : (tick shapes b f).time ≡ suc f.time = tick_time shapes b f in
    let count : tests b (tick shapes b f).time ≡ tests b (suc f.time) = ap (tests b) now in
    let more : suc f.time ≤ n.iterations * b.interval + exit = still_before b exit f j some h known_first n off in
    record {
      gates = λ k. ap (λ (g : ℕ → Bool). g k) (tick_gates shapes b f) ∙ (n.gates k ∙ ap (λ m. nat_le m (n.iterations + k)) (sym count));
      among = subst (λ m. n.iterations ≤ m) (sym count) n.among;
      before_exit = omega (arith, now, more);
    }
