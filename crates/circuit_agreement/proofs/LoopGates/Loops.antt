-- The registers that all loops share, from the cycle in which a loop's first values are taken to the one in which it is left.
use Rattle.std.proofs.Common.{◌≡◌, ℕ, zero, suc, ◌+◌, ◌-◌, ◌*◌, ◌%◌, ◌^◌, ◌<◌, ◌≤◌, Bool, true, false, not, ◌&&◌, List, [], Option, Some, None, refl, sym, ap, ap₂, ◌∙◌, subst, inl, inr, mod-eq_of_lt, arith}
use Rattle.std.specs.Prelude.{◌==◌, nat_le, slice_get}
use Rattle.std.proofs.lemmas.Bool.{cases_Bool, lt-leb, leb-true, leb-false, ne_eqb, false≢true, true≢false, not_from_false}
use Rattle.ir_core.specs.declared.body.Operand.{Operand}
use Rattle.ir_core.specs.declared.body.Source.{Source}
use Rattle.ir_core.specs.declared.body.Source.TheVariants as source
use Rattle.dep_graph.specs.Dependences.{maker_by, maker_of}
use Rattle.ir_core.specs.Bodies.{Words, word}
use Rattle.clock_ir.specs.Flows.{TimedBody, Flow, known, is_at, held, operand_at, holds_at, gates_now, first_flow, tick}
use Rattle.clock_ir.specs.ClockRuns.{overlapped}
use Rattle.datapath.specs.Plans.{Plan, body_at, span}
use Rattle.datapath.specs.Cycles.{Gate, Passed, Waited, Signal, Contents, Cycle, in_cycle, holds, bit}
use Rattle.datapath.specs.Reading.{is_true}
use Rattle.datapath.specs.Control.{may_fail, has_test_as, has_test, is_tested, test_holds, is_loading, wait, wait_bits}
use Rattle.datapath.specs.Circuits.{Step}
use Rattle.datapath.specs.Standing.{IsLoading, IsInside}
use Rattle.datapath.proofs.Controller.{holds_bit}
use Rattle.circuit_agreement.specs.CircuitFlow.Compiled.{IsCompiled}
use Rattle.circuit_agreement.specs.CircuitFlow.Flows.{Sees, CountsIntervals}
use Rattle.circuit_agreement.specs.CircuitFlow.Reads.{by_test}
use Rattle.circuit_agreement.proofs.Nodes.{positive}
use Rattle.clock_runs.proofs.Numbers.{later_turn}
use Rattle.circuit_agreement.specs.CircuitFlow.LoopGates.Iterations.{tests}
use Rattle.circuit_agreement.specs.CircuitFlow.LoopGates.Gates.{HoldsGates, is_left}
use Rattle.circuit_agreement.specs.CircuitFlow.LoopGates.{GatesBegin, GatesStep, LoopsCount}
use Rattle.circuit_agreement.proofs.LoopGates.Times.{shows, passes_on, stays_passed, tested_none, tested_upper, tested_lower}
use Rattle.circuit_agreement.proofs.LoopGates.Turns.{Tested, Untested, is_tested_now, is_quiet_now, Next, next, still_before, tick_time, tick_gates, first_time, first_gates, has_run_first, has_run_next}
use Rattle.circuit_agreement.proofs.LoopGates.Known.{loop_body, known_at_exit}
use Rattle.circuit_agreement.proofs.LoopGates.Cycles.{InNode, at_iteration_is, counts_from, loading_now, loads_gate, loads_passed, loads_waited, ends_is, first_gate, next_gate, gate_stays, passed_more, passed_stays, waits_on, waits_not, wait_fits}

-- ---- tests that cannot fail

constant_holds : (b : TimedBody) (f : Flow) (t : ℕ) (x : Operand) (value : Source) → x.value ≡ value → may_fail value ≡ false → holds_at b f t (Some x) ≡ true
constant_holds b f t x (source.Constant w) e off =
    let none : maker_of b.outs x ≡ None = ap (maker_by b.outs x.distance) e in
    let is : operand_at b f t x ≡ w = ap (held b f t x) none ∙ ap (word (record { variables = f.entry; memories = f.memories }) []) e in
    not_from_false _ (ne_eqb (operand_at b f t x) 0 (λ z. false≢true (sym off ∙ ap (λ n. n % 2 == 0) (sym is ∙ z))))
constant_holds b f t x (source.Variable v) e off = absurd (true≢false off)
constant_holds b f t x (source.Result op) e off = absurd (true≢false off)

pub untested_holds : (b : TimedBody) (f : Flow) (t : ℕ) (test : Option Operand) → has_test_as test ≡ false → holds_at b f t test ≡ true
untested_holds b f t None off = refl
untested_holds b f t (Some x) off = constant_holds b f t x x.value refl off

-- ---- a loop of a compiled program

module _ (p : Plan) (compiled : IsCompiled p) (i : ℕ) (body : TimedBody) (exit next_ : ℕ) (at_ : slice_get p.program.nodes i ≡ Some (overlapped body exit next_)) where
  abbrev pub b : TimedBody
  b = body_at p i

  pub some : 0 < (body_at p i).interval
  some = let h = (positive p i (overlapped body exit next_) compiled at_).0 in omega (arith, h)

  pub long : span p i ≡ (body_at p i).interval
  long = (positive p i (overlapped body exit next_) compiled at_).1

  pub same_body : body_at p i ≡ body
  same_body = loop_body p compiled i body exit next_ at_

  pub known_first : known (body_at p i) ≤ exit
  known_first = known_at_exit p compiled i body exit next_ at_

  node_here : slice_get p.program.nodes i ≡ Some (overlapped (body_at p i) exit next_)
  node_here = at_ ∙ ap (λ (b : TimedBody). Some (overlapped b exit next_)) (sym same_body)

  pub in_node : (f : Flow) (x : Contents) (signals : Signal → ℕ) (pins : List ℕ) → IsInside i (f.time % span p i) x → InNode p i f.time (in_cycle x signals pins)
  in_node f x signals pins inside = record {
    some = some;
    long = long;
    active = inside.active;
    time = inside.time ∙ ap (λ w. f.time % w) long;
    others = inside.others;
    load = inside.load;
  }

  -- the test in the circuit and in the clocked run
  pub seen : (f : Flow) (c : Cycle) → Sees p i f c → is_at (body_at p i).interval (known (body_at p i)) f.time ≡ true
      → test_holds p c i ≡ holds_at (body_at p i) f (known (body_at p i)) (body_at p i).test
  seen f c sees on = seen_as (body_at p i).test refl
    where
      seen_as : (test : Option Operand) → (body_at p i).test ≡ test → is_true p c i (known (body_at p i)) test ≡ holds_at (body_at p i) f (known (body_at p i)) test
      seen_as None e = refl
      seen_as (Some x) e = ap (λ n. not (n == 0)) (sees x (known (body_at p i)) (by_test (body_at p i) exit next_ x node_here e) on)

  -- ---- as its time begins

  module _ (t : Words) (x y : Contents) (pins : List ℕ) (loads : IsLoading i x) (step : Step p x pins y) where
    abbrev start : Cycle
    start = in_cycle x step.signals pins

    loading : is_loading p start ≡ true
    loading = loading_now p i body exit next_ start at_ loads.load

    now : (first_flow (body_at p i) t).time ≡ 0
    now = first_time (body_at p i) t

    none : tests (body_at p i) (first_flow (body_at p i) t).time ≡ 0
    none = ap (tests (body_at p i)) now ∙ tested_none (body_at p i).interval (known (body_at p i)) some

    first_passed : (n : ℕ) → y.regs (Passed (suc n)) ≡ bit (nat_le (suc n * (body_at p i).interval) (first_flow (body_at p i) t).time)
    first_passed n =
        let more : suc n * (body_at p i).interval ≡ n * (body_at p i).interval + (body_at p i).interval = omega arith in
        loads_passed p start loading (suc n) (y.regs (Passed (suc n))) (step.is_after.regs (Passed (suc n)))
        ∙ sym (ap bit (lt-leb (suc n * (body_at p i).interval) (first_flow (body_at p i) t).time (omega (arith, more, some, now))))

    first_gates_are : (k : ℕ) → k ≤ tests (body_at p i) (first_flow (body_at p i) t).time → y.regs (Gate k) ≡ bit ((first_flow (body_at p i) t).gates k)
    first_gates_are zero le = loads_gate p start loading (y.regs (Gate 0)) loads.active (step.is_after.regs (Gate 0)) ∙ ap bit (sym (first_gates (body_at p i) t 0))
    first_gates_are (suc k) le = absurd (omega (arith, le, none))

    pub begins : HoldsGates p i exit (first_flow (body_at p i) t) y
    begins = record {
      passed = first_passed;
      iterations = 0;
      ran = has_run_first (body_at p i) exit t some;
      all_run = λ u. sym none;
      gates = λ u k le. first_gates_are k le;
      waited = λ u.
          loads_waited p start loading (y.regs Waited) (step.is_after.regs Waited)
          ∙ (let z : 0 ≡ (first_flow (body_at p i) t).time - suc (0 * (body_at p i).interval + known (body_at p i)) = omega (arith, now) in z);
    }

  -- ---- in a cycle in which it is not left

  module _ (f : Flow) (x : Contents) (signals : Signal → ℕ) (pins : List ℕ) (inside : IsInside i (f.time % span p i) x) (h : HoldsGates p i exit f x) where
    abbrev pub now_in : Cycle
    now_in = in_cycle x signals pins

    pub in_loop : InNode p i f.time now_in
    in_loop = in_node f x signals pins inside

    pub counts : CountsIntervals p i f now_in
    counts = counts_from p i f now_in h.passed

    pub is_tested_as : has_test p i ≡ true → is_tested p now_in i ≡ is_at (body_at p i).interval (known (body_at p i)) f.time
    is_tested_as u = ap₂ (λ x y. x && y) u (at_iteration_is p i (known (body_at p i)) f now_in in_loop counts)

    pub gate_is : has_test p i ≡ true → (k : ℕ) → k ≤ tests (body_at p i) f.time → holds now_in (Gate k) ≡ f.gates k
    gate_is u k le = holds_bit now_in (Gate k) (f.gates k) (h.gates u k le)

    pub next_now : Next (body_at p i) f h.iterations
    next_now = next (body_at p i) exit f h.iterations some h.ran

    pub always_runs : has_test p i ≡ false → next_now.iterations ≡ tests (body_at p i) (suc f.time)
    always_runs u = next_now.all (untested_holds (body_at p i) f (known (body_at p i)) (body_at p i).test u) (h.all_run u)

    -- the test of the first iteration that does not run was made before
    pub shut_before : f.gates 0 ≡ false → h.iterations * (body_at p i).interval + suc (known (body_at p i)) ≤ f.time
    shut_before off =
        let few = leb-false (tests (body_at p i) f.time) (h.iterations + 0) (sym (h.ran.gates 0) ∙ off) in
        tested_lower (body_at p i).interval (known (body_at p i)) h.iterations f.time some (omega (arith, few))

    -- and no other one begins to run
    pub as_before : h.iterations * (body_at p i).interval + suc (known (body_at p i)) ≤ f.time → next_now.iterations ≡ h.iterations
    as_before le = elim next_now.grows [
      | inl same ↦ same
      | inr more ↦ absurd (let e : f.time ≡ h.iterations * (body_at p i).interval + known (body_at p i) = more.1 in omega (arith, e, le))
    ]

  module _ (f : Flow) (x y : Contents) (pins : List ℕ) (inside : IsInside i (f.time % span p i) x) (h : HoldsGates p i exit f x) (step : Step p x pins y)
      (sees : Sees p i f (in_cycle x step.signals pins)) (unleft : is_left (body_at p i) exit f ≡ false) where
    abbrev c : Cycle
    c = in_cycle x step.signals pins

    abbrev w : ℕ
    w = (body_at p i).interval

    node_ : InNode p i f.time c
    node_ = in_loop f x step.signals pins inside h

    counted : CountsIntervals p i f c
    counted = counts f x step.signals pins inside h

    abbrev nx : Next (body_at p i) f h.iterations
    nx = next_now f x step.signals pins inside h

    tested_as : has_test p i ≡ true → is_tested p c i ≡ is_at w (known (body_at p i)) f.time
    tested_as u = is_tested_as f x step.signals pins inside h u

    then_passed : (n : ℕ) → y.regs (Passed (suc n)) ≡ bit (nat_le (suc n * w) (suc f.time))
    then_passed n = elim (cases_Bool (shows w (f.time % w) (w - 1))) [
      | inl on ↦
          passed_more p i f.time body exit next_ c at_ node_ n (y.regs (Passed (suc n))) (step.is_after.regs (Passed (suc n))) (ends_is p i f.time body exit next_ c at_ node_ ∙ on)
          ∙ ap bit (counted n ∙ passes_on w n f.time some on)
      | inr off ↦
          passed_stays p i f.time body exit next_ c at_ node_ n (y.regs (Passed (suc n))) (step.is_after.regs (Passed (suc n))) (ends_is p i f.time body exit next_ c at_ node_ ∙ off)
          ∙ (h.passed n ∙ ap bit (stays_passed w n f.time some off))
    ]

    tested_gates : has_test p i ≡ true → is_at w (known (body_at p i)) f.time ≡ true → (t : Tested (body_at p i) f) → (k : ℕ) → k ≤ tests (body_at p i) (suc f.time)
        → y.regs (Gate k) ≡ bit (gates_now (body_at p i) f k)
    tested_gates u on t zero le =
        first_gate p i f.time body exit next_ c at_ node_ (y.regs (Gate 0)) (step.is_after.regs (Gate 0)) (tested_as u ∙ on)
        ∙ ap bit (ap₂ (λ a e. a && e) (gate_is f x step.signals pins inside h u 0 (omega arith)) (seen f c sees on) ∙ sym t.first)
    tested_gates u on t (suc k) le =
        next_gate p i f.time body exit next_ c at_ node_ k (y.regs (Gate (suc k))) (step.is_after.regs (Gate (suc k))) (tested_as u ∙ on)
        ∙ (h.gates u k (let e : tests (body_at p i) f.time ≡ t.number = t.before in let e' : tests (body_at p i) (suc f.time) ≡ suc t.number = t.behind in omega (arith, e, e', le)) ∙ ap bit (sym (t.others k)))

    quiet_gates : has_test p i ≡ true → is_at w (known (body_at p i)) f.time ≡ false → (q : Untested (body_at p i) f) → (k : ℕ) → k ≤ tests (body_at p i) (suc f.time)
        → y.regs (Gate k) ≡ bit (gates_now (body_at p i) f k)
    quiet_gates u off q k le =
        gate_stays p i f.time body exit next_ c at_ node_ k (y.regs (Gate k)) (step.is_after.regs (Gate k)) (tested_as u ∙ off)
        ∙ (h.gates u k (subst (λ m. k ≤ m) q.still le) ∙ ap bit (sym (q.same k)))

    then_gates : has_test p i ≡ true → (k : ℕ) → k ≤ tests (body_at p i) (suc f.time) → y.regs (Gate k) ≡ bit (gates_now (body_at p i) f k)
    then_gates u k le = elim (cases_Bool (is_at w (known (body_at p i)) f.time)) [
      | inl on ↦ tested_gates u on (is_tested_now (body_at p i) f some on) k le
      | inr off ↦ quiet_gates u off (is_quiet_now (body_at p i) f some off) k le
    ]

    grown : h.iterations ≤ nx.iterations
    grown = elim nx.grows [ inl same ↦ omega (arith, same) | inr more ↦ (let e = more.0 in omega (arith, e)) ]

    then_before : suc f.time ≤ nx.iterations * w + exit
    then_before = still_before (body_at p i) exit f h.iterations some h.ran known_first nx unleft

    open_waited : has_test p i ≡ true → f.gates 0 ≡ true → y.regs Waited ≡ suc f.time - suc (nx.iterations * w + known (body_at p i))
    open_waited u on =
        let few : tests (body_at p i) f.time ≤ h.iterations + 0 = leb-true (tests (body_at p i) f.time) (h.iterations + 0) (sym (h.ran.gates 0) ∙ on) in
        let upper : f.time ≤ tests (body_at p i) f.time * w + known (body_at p i) = tested_upper w (known (body_at p i)) f.time some in
        let most : tests (body_at p i) f.time * w ≤ h.iterations * w = later_turn w (tests (body_at p i) f.time) h.iterations (omega (arith, few)) in
        let more : h.iterations * w ≤ nx.iterations * w = later_turn w h.iterations nx.iterations grown in
        waits_not p i f.time body exit next_ c at_ node_ (y.regs Waited) (step.is_after.regs Waited) (gate_is f x step.signals pins inside h u 0 (omega arith) ∙ on)
        ∙ (h.waited u
        ∙ (let z : f.time - suc (h.iterations * w + known (body_at p i)) ≡ suc f.time - suc (nx.iterations * w + known (body_at p i)) = omega (arith, upper, most, more) in z))

    shut_waited : has_test p i ≡ true → f.gates 0 ≡ false → y.regs Waited ≡ suc f.time - suc (nx.iterations * w + known (body_at p i))
    shut_waited u off =
        let lower : h.iterations * w + suc (known (body_at p i)) ≤ f.time = shut_before f x step.signals pins inside h off in
        let same : nx.iterations ≡ h.iterations = as_before f x step.signals pins inside h lower in
        let last : suc f.time ≤ h.iterations * w + exit = subst (λ j. suc f.time ≤ j * w + exit) same then_before in
        let m : ℕ = suc f.time - suc (h.iterations * w + known (body_at p i)) in
        let wide : wait (body_at p i) exit ≡ wait body exit = ap (λ (b : TimedBody). wait b exit) same_body in
        let fits : m < 2 ^ wait_bits p = wait_fits p i body exit next_ m compiled.waits at_ (omega (arith, wide, last, lower)) in
        waits_on p i f.time body exit next_ c at_ node_ (y.regs Waited) (step.is_after.regs Waited) (gate_is f x step.signals pins inside h u 0 (omega arith) ∙ off)
        ∙ (ap (λ v. (v + 1) % 2 ^ wait_bits p) (h.waited u)
        ∙ (ap (λ v. v % 2 ^ wait_bits p) (let z : f.time - suc (h.iterations * w + known (body_at p i)) + 1 ≡ m = omega (arith, lower) in z)
        ∙ (mod-eq_of_lt fits ∙ ap (λ j. suc f.time - suc (j * w + known (body_at p i))) (sym same))))

    then_waited : has_test p i ≡ true → y.regs Waited ≡ suc f.time - suc (nx.iterations * w + known (body_at p i))
    then_waited u = elim (cases_Bool (f.gates 0)) [ inl on ↦ open_waited u on | inr off ↦ shut_waited u off ]

    abbrev g : Flow
    g = tick p.program.shapes (body_at p i) f

    after_time : g.time ≡ suc f.time
    after_time = tick_time p.program.shapes (body_at p i) f

    pub goes_on : HoldsGates p i exit (tick p.program.shapes (body_at p i) f) y
    goes_on = record {
      passed = λ n. then_passed n ∙ ap (λ m. bit (nat_le (suc n * w) m)) (sym after_time);
      iterations = nx.iterations;
      ran = has_run_next p.program.shapes (body_at p i) exit f h.iterations some h.ran known_first nx unleft;
      all_run = λ u. always_runs f x step.signals pins inside h u ∙ ap (tests (body_at p i)) (sym after_time);
      gates = λ u k le.
          then_gates u k (subst (λ m. k ≤ tests (body_at p i) m) after_time le)
          ∙ ap (λ (gates : ℕ → Bool). bit (gates k)) (sym (tick_gates p.program.shapes (body_at p i) f));
      waited = λ u. then_waited u ∙ ap (λ m. m - suc (nx.iterations * w + known (body_at p i))) (sym after_time);
    }

-- ---- laws

pub gates_begin : GatesBegin
gates_begin p i body exit next_ t x y pins compiled at_ loads step = begins p compiled i body exit next_ at_ t x y pins loads step

pub gates_step : GatesStep
gates_step p i body exit next_ f x y pins compiled at_ inside h step sees unleft = goes_on p compiled i body exit next_ at_ f x y pins inside h step sees unleft

pub loops_count : LoopsCount
loops_count p i exit f x signals pins h = counts_from p i f (in_cycle x signals pins) h.passed
