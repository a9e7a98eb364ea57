-- A loop is left where the clocked run leaves it, and stores are let through where they start there.
use Rattle.std.proofs.Common.{◌≡◌, ℕ, zero, suc, ◌+◌, ◌-◌, ◌*◌, ◌/◌, ◌%◌, ◌<◌, ◌≤◌, Bool, true, false, not, ◌&&◌, List, Some, refl, sym, ap, ap₂, ◌∙◌, subst, inl, inr, div-add-mod', arith}
use Rattle.std.specs.Prelude.{◌==◌, ◌||◌, slice_get}
use Rattle.std.proofs.lemmas.Bool.{cases_Bool, cases_lt, and_from, and_left, and_right, and_parts, or_left, le-leb, lt-leb, leb-false, eq-eqb, eqb-true, false≢true, not_from_false, false_from_ne_true, true_from_ne_false}
use Rattle.std.proofs.lemmas.Nat.{mod_below, same_from_place}
use Rattle.clock_ir.specs.Flows.{TimedBody, Flow, known, is_at, place, holds_at, gates_now, runs_at}
use Rattle.clock_ir.specs.ClockRuns.{overlapped}
use Rattle.datapath.specs.Plans.{Plan, body_at, span}
use Rattle.datapath.specs.Cycles.{Active, Gate, Waited, Signal, Contents, Cycle, in_cycle, holds}
use Rattle.datapath.specs.Reading.{at_iteration}
use Rattle.datapath.specs.Control.{has_test, is_tested, test_holds, wait, leaves_loop, is_loop, gate_after, gate_at}
use Rattle.datapath.specs.Standing.{IsInside}
use Rattle.datapath.proofs.Controller.{on}
use Rattle.circuit_agreement.specs.CircuitFlow.Compiled.{IsCompiled}
use Rattle.circuit_agreement.specs.CircuitFlow.Flows.{Sees, CountsIntervals, StoresAsRun, LeavesAsRun}
use Rattle.clock_runs.proofs.Numbers.{turn, is_at_true, is_at_sure, later_turn}
use Rattle.circuit_agreement.specs.CircuitFlow.LoopGates.Iterations.{tests}
use Rattle.circuit_agreement.specs.CircuitFlow.LoopGates.Gates.{HoldsGates, is_left}
use Rattle.circuit_agreement.specs.CircuitFlow.LoopGates.{LoopsLeave, LoopsStore, IterationsAreAt}
use Rattle.circuit_agreement.proofs.LoopGates.Times.{agree, tested_more, tested_then, tested_place, place_is}
use Rattle.circuit_agreement.proofs.LoopGates.Turns.{Tested, Untested, is_tested_now, is_quiet_now, Next, runs_is, left_then, left_from}
use Rattle.circuit_agreement.proofs.LoopGates.Known.{known_at_store}
use Rattle.circuit_agreement.proofs.LoopGates.Cycles.{InNode, at_iteration_is}
use Rattle.circuit_agreement.proofs.LoopGates.Loops.{some, long, known_first, in_node, seen, in_loop, counts, is_tested_as, gate_is, next_now, always_runs, shut_before, as_before}

not_true : (x : Bool) → not x ≡ true → x ≡ false
not_true true e = absurd (false≢true e)
not_true false e = refl

-- two tests of which the second matters only where the first holds
pub and_same : (a b m n : Bool) → a ≡ m → (m ≡ true → b ≡ n) → (a && b) ≡ (m && n)
and_same a b true n e f = ap₂ (λ x y. x && y) e (f refl)
and_same a b false n e f = and_left a b e

module _ (p : Plan) (compiled : IsCompiled p) (i : ℕ) (body : TimedBody) (exit next_ : ℕ) (at_ : slice_get p.program.nodes i ≡ Some (overlapped body exit next_)) (f : Flow) (x : Contents)
    (signals : Signal → ℕ) (pins : List ℕ) (inside : IsInside i (f.time % span p i) x) (h : HoldsGates p i exit f x) (sees : Sees p i f (in_cycle x signals pins)) where
  abbrev c : Cycle
  c = in_cycle x signals pins

  abbrev b : TimedBody
  b = body_at p i

  abbrev w : ℕ
  w = (body_at p i).interval

  abbrev k0 : ℕ
  k0 = known (body_at p i)

  abbrev j : ℕ
  j = h.iterations

  positive : 0 < w
  positive = some p compiled i body exit next_ at_

  first : k0 ≤ exit
  first = known_first p compiled i body exit next_ at_

  node_ : InNode p i f.time c
  node_ = in_loop p compiled i body exit next_ at_ f x signals pins inside h

  counted : CountsIntervals p i f c
  counted = counts p compiled i body exit next_ at_ f x signals pins inside h

  abbrev nx : Next (body_at p i) f h.iterations
  nx = next_now p compiled i body exit next_ at_ f x signals pins inside h

  tested_as : has_test p i ≡ true → is_tested p c i ≡ is_at w k0 f.time
  tested_as u = is_tested_as p compiled i body exit next_ at_ f x signals pins inside h u

  gate_of : has_test p i ≡ true → (k : ℕ) → k ≤ tests b f.time → holds c (Gate k) ≡ f.gates k
  gate_of u k le = gate_is p compiled i body exit next_ at_ f x signals pins inside h u k le

  all_then : has_test p i ≡ false → nx.iterations ≡ tests b (suc f.time)
  all_then u = always_runs p compiled i body exit next_ at_ f x signals pins inside h u

  known_seen : is_at w k0 f.time ≡ true → test_holds p c i ≡ holds_at b f k0 b.test
  known_seen on_ = seen p compiled i body exit next_ at_ f c sees on_

  left_parts : is_left b exit f ≡ true → (f.time ≡ j * w + exit) × (nx.iterations ≡ j)
  left_parts e = left_then b exit f j positive h.ran first nx e

  left_so : f.time ≡ j * w + exit → nx.iterations ≡ j → is_left b exit f ≡ true
  left_so at_exit same = left_from b exit f j positive h.ran first nx at_exit same

  -- ---- a loop that is left in the cycle in which a test fails

  leaves_at_once : exit ≡ k0 → is_tested p c i ≡ true → test_holds p c i ≡ false → is_left b exit f ≡ true
  leaves_at_once same tested fails =
      let parts = and_parts (has_test p i) (at_iteration p c i k0) tested in
      let on_ : is_at w k0 f.time ≡ true = sym (tested_as parts.0) ∙ tested in
      let t : Tested b f = is_tested_now b f positive on_ in
      let before : f.time ≤ j * w + exit = h.ran.before_exit in
      let among : j ≤ tests b f.time = h.ran.among in
      let number : tests b f.time ≡ t.number = t.before in
      let now : f.time ≡ t.number * w + k0 = t.now in
      let most : t.number ≤ j = elim (cases_lt j t.number) [
        | inl less ↦
            let far : suc j * w ≤ t.number * w = later_turn w (suc j) t.number less in
            let wide : suc j * w ≡ j * w + w = omega arith in
            absurd (omega (arith, far, wide, now, before, same, positive))
        | inr not_less ↦ omega (arith, not_less)
      ] in
      let is : t.number ≡ j = omega (arith, most, among, number) in
      let shut : gates_now b f 0 ≡ false = t.first ∙ and_right (f.gates 0) (holds_at b f k0 b.test) (sym (known_seen on_) ∙ fails) in
      let few = leb-false (tests b (suc f.time)) (nx.iterations + 0) (sym (nx.gates 0) ∙ shut) in
      let behind : tests b (suc f.time) ≡ suc t.number = t.behind in
      let still : nx.iterations ≡ j = elim nx.grows [
        | inl unchanged ↦ unchanged
        | inr more ↦ absurd (let e : nx.iterations ≡ suc j = more.0 in omega (arith, e, few, behind, is))
      ] in
      left_so (now ∙ ap₂ (λ n e. n * w + e) is (sym same)) still

  left_at_once : exit ≡ k0 → is_left b exit f ≡ true → (is_tested p c i && not (test_holds p c i)) ≡ true
  left_at_once same e =
      let parts = left_parts e in
      let now : f.time ≡ j * w + k0 = parts.0 ∙ ap (λ n. j * w + n) same in
      let on_ : is_at w k0 f.time ≡ true = is_at_sure w positive j k0 f.time now in
      let number = tested_more w k0 j f.time positive now in
      let some_test : has_test p i ≡ true = true_from_ne_false (has_test p i) (λ u.
      let all : nx.iterations ≡ tests b (suc f.time) = all_then u in
      let behind : tests b (suc f.time) ≡ suc j = number.0 in
      let unchanged : nx.iterations ≡ j = parts.1 in
      omega (arith, all, behind, unchanged)) in
      let fails : holds_at b f k0 b.test ≡ false = false_from_ne_true (holds_at b f k0 b.test) (λ holds_.
      let all : nx.iterations ≡ tests b (suc f.time) = nx.all holds_ (sym number.1) in
      let behind : tests b (suc f.time) ≡ suc j = number.0 in
      let unchanged : nx.iterations ≡ j = parts.1 in
      omega (arith, all, behind, unchanged)) in
      and_from (is_tested p c i) (not (test_holds p c i)) (tested_as some_test ∙ on_) (not_from_false _ (known_seen on_ ∙ fails))

  -- ---- one that goes on for some cycles

  leaves_later : (m : ℕ) → exit ≡ k0 + suc m → has_test p i ≡ true → holds c (Gate 0) ≡ false → c.regs Waited ≡ m → is_left b exit f ≡ true
  leaves_later m same u shut waited =
      let off : f.gates 0 ≡ false = sym (gate_of u 0 (omega arith)) ∙ shut in
      let lower : j * w + suc k0 ≤ f.time = shut_before p compiled i body exit next_ at_ f x signals pins inside h off in
      let count : f.time - suc (j * w + k0) ≡ m = sym (h.waited u) ∙ waited in
      left_so (omega (arith, lower, count, same)) (as_before p compiled i body exit next_ at_ f x signals pins inside h lower)

  left_later : (m : ℕ) → exit ≡ k0 + suc m → is_left b exit f ≡ true → (has_test p i && (holds c (Active i) && (not (holds c (Gate 0)) && (c.regs Waited == m)))) ≡ true
  left_later m same e =
      let now : f.time ≡ j * w + exit = (left_parts e).0 in
      let more : j < tests b f.time = tested_then w k0 j f.time positive (omega (arith, now, same)) in
      let some_test : has_test p i ≡ true = true_from_ne_false (has_test p i) (λ u. let all : j ≡ tests b f.time = h.all_run u in omega (arith, all, more)) in
      let shut : holds c (Gate 0) ≡ false = gate_of some_test 0 (omega arith) ∙ (h.ran.gates 0 ∙ lt-leb (tests b f.time) (j + 0) (omega (arith, more))) in
      let count : c.regs Waited ≡ m = h.waited some_test ∙ (let z : f.time - suc (j * w + k0) ≡ m = omega (arith, now, same) in z) in
      and_from _ _ some_test (and_from _ _ (on c (Active i) node_.active) (and_from _ _ (not_from_false _ shut) (eq-eqb (c.regs Waited) m count)))

  leaves_as : (m : ℕ) → wait b exit ≡ m → leaves_loop p c i m ≡ is_left b exit f
  leaves_as zero e =
      let same : exit ≡ k0 = omega (arith, e, first) in
      agree (is_tested p c i && not (test_holds p c i)) (is_left b exit f)
      (λ on_. let parts = and_parts (is_tested p c i) (not (test_holds p c i)) on_ in leaves_at_once same parts.0 (not_true (test_holds p c i) parts.1))
      (left_at_once same)
  leaves_as (suc m) e =
      let same : exit ≡ k0 + suc m = omega (arith, e, first) in
      agree (has_test p i && (holds c (Active i) && (not (holds c (Gate 0)) && (c.regs Waited == m)))) (is_left b exit f)
      (λ on_.
      let tests_ = and_parts (has_test p i) (holds c (Active i) && (not (holds c (Gate 0)) && (c.regs Waited == m))) on_ in
      let under_way = and_parts (holds c (Active i)) (not (holds c (Gate 0)) && (c.regs Waited == m)) tests_.1 in
      let parts = and_parts (not (holds c (Gate 0))) (c.regs Waited == m) under_way.1 in
      leaves_later m same tests_.0 (not_true (holds c (Gate 0)) parts.0) (eqb-true (c.regs Waited) m parts.1))
      (left_later m same)

  pub leaves_loops : LeavesAsRun p i exit f c
  leaves_loops = leaves_as (wait b exit) refl

  -- ---- stores

  -- the gate of an iteration that is at time t, this long after its test is known
  module _ (u : has_test p i ≡ true) (a t : ℕ) (le : k0 ≤ t) (now : f.time ≡ a * w + t) where
    open_same : (t - k0) / w ≡ 0 → (t - k0) % w ≡ 0 → (holds c (Gate 0) && test_holds p c i) ≡ gates_now b f 0
    open_same eq er =
        let d : (t - k0) / w * w + (t - k0) % w ≡ t - k0 = div-add-mod' (t - k0) w in
        let none : (t - k0) / w * w ≡ 0 = ap (λ n. n * w) eq ∙ (let z : 0 * w ≡ 0 = omega arith in z) in
        let on_ : is_at w k0 f.time ≡ true = is_at_sure w positive a k0 f.time (omega (arith, now, d, none, er, le)) in
        let tested : Tested b f = is_tested_now b f positive on_ in
        ap₂ (λ y z. y && z) (gate_of u 0 (omega arith)) (known_seen on_) ∙ sym tested.first

    known_same : (q : ℕ) → (t - k0) / w ≡ suc q → (t - k0) % w ≡ 0 → holds c (Gate q) ≡ gates_now b f (suc q)
    known_same q eq er =
        let d : (t - k0) / w * w + (t - k0) % w ≡ t - k0 = div-add-mod' (t - k0) w in
        let far : (t - k0) / w * w ≡ suc q * w = ap (λ n. n * w) eq in
        let sum : (a + suc q) * w ≡ a * w + suc q * w = omega arith in
        let at_known : f.time ≡ (a + suc q) * w + k0 = omega (arith, now, d, far, er, sum, le) in
        let on_ : is_at w k0 f.time ≡ true = is_at_sure w positive (a + suc q) k0 f.time at_known in
        let tested : Tested b f = is_tested_now b f positive on_ in
        let many : tests b f.time ≡ a + suc q = (tested_more w k0 (a + suc q) f.time positive at_known).1 in
        gate_of u q (omega (arith, many)) ∙ sym (tested.others q)

    later_same : (q r : ℕ) → (t - k0) / w ≡ q → (t - k0) % w ≡ suc r → holds c (Gate q) ≡ gates_now b f q
    later_same q r eq er =
        let d : (t - k0) / w * w + (t - k0) % w ≡ t - k0 = div-add-mod' (t - k0) w in
        let far : (t - k0) / w * w ≡ q * w = ap (λ n. n * w) eq in
        let sum : (a + q) * w ≡ a * w + q * w = omega arith in
        let small : suc r < w = subst (λ n. n < w) er (mod_below (t - k0) w positive) in
        let split : f.time ≡ (a + q) * w + (k0 + suc r) = omega (arith, now, d, far, er, sum, le) in
        let off : is_at w k0 f.time ≡ false = false_from_ne_true (is_at w k0 f.time) (λ on_.
        let at_known : f.time ≡ turn w k0 f.time * w + k0 = is_at_true w k0 f.time on_ in
        let same : turn w k0 f.time * w + 0 ≡ (a + q) * w + suc r = omega (arith, split, at_known) in
        let parts = same_from_place (turn w k0 f.time) 0 (a + q) (suc r) w positive small same in
        let clash : 0 ≡ suc r = parts.1 in
        omega (arith, clash)) in
        let quiet : Untested b f = is_quiet_now b f positive off in
        let many : a + q < tests b f.time = tested_then w k0 (a + q) f.time positive (omega (arith, split)) in
        gate_of u q (omega (arith, many)) ∙ sym (quiet.same q)

    gate_as : (q r : ℕ) → (t - k0) / w ≡ q → (t - k0) % w ≡ r → gate_after p c i q r ≡ gates_now b f q
    gate_as zero zero eq er = open_same eq er
    gate_as (suc q) zero eq er = known_same q eq er
    gate_as zero (suc r) eq er = later_same zero r eq er
    gate_as (suc q) (suc r) eq er = later_same (suc q) r eq er

    wide : span p i ≡ w
    wide = long p compiled i body exit next_ at_

    pub gate_then : gate_at p c i (t - k0) ≡ runs_at b f t
    gate_then =
        gate_as ((t - k0) / span p i) ((t - k0) % span p i) (ap (λ n. (t - k0) / n) (sym wide)) (ap (λ n. (t - k0) % n) (sym wide))
        ∙ ap (gates_now b f) (ap (λ n. (t - k0) / n) wide ∙ sym (place_is w k0 t))

  -- where no test can fail each iteration runs
  runs_always : has_test p i ≡ false → (a t : ℕ) → k0 ≤ t → f.time ≡ a * w + t → runs_at b f t ≡ true
  runs_always u a t le now =
      let all : nx.iterations ≡ tests b (suc f.time) = all_then u in
      let many : tests b (suc f.time) ≡ a + suc (place w k0 t 0) = tested_place w k0 t a f.time positive le now in
      runs_is b exit f j positive h.ran first nx a t le now ∙ le-leb (suc a) nx.iterations (omega (arith, all, many))

  lets_through : (t : ℕ) → k0 ≤ t → is_at w t f.time ≡ true → (not (is_loop (slice_get p.program.nodes i) && has_test p i) || gate_at p c i (t - k0)) ≡ runs_at b f t
  lets_through t le on_ =
      let a : ℕ = turn w t f.time in
      let now : f.time ≡ a * w + t = is_at_true w t f.time on_ in
      elim (cases_Bool (has_test p i)) [
        | inl u ↦
            ap (λ y. not y || gate_at p c i (t - k0)) (and_from (is_loop (slice_get p.program.nodes i)) (has_test p i) (ap is_loop at_) u)
            ∙ gate_then u a t le now
        | inr u ↦
            or_left _ (gate_at p c i (t - k0)) (not_from_false _ (and_right (is_loop (slice_get p.program.nodes i)) (has_test p i) u))
            ∙ sym (runs_always u a t le now)
      ]

  pub stores_as : StoresAsRun p i f c
  stores_as k it op kind =
      and_same (at_iteration p c i it.start) (not (is_loop (slice_get p.program.nodes i) && has_test p i) || gate_at p c i (it.start - k0)) (is_at w it.start f.time) (runs_at b f it.start)
      (at_iteration_is p i it.start f c node_ counted) (lets_through it.start (known_at_store p compiled i body exit next_ at_ k it op kind))

-- ---- laws

pub loops_leave : LoopsLeave
loops_leave p i body exit next_ f x signals pins compiled at_ inside h sees = leaves_loops p compiled i body exit next_ at_ f x signals pins inside h sees

pub loops_store : LoopsStore
loops_store p i body exit next_ f x signals pins compiled at_ inside h sees = stores_as p compiled i body exit next_ at_ f x signals pins inside h sees

pub iterations_are_at : IterationsAreAt
iterations_are_at p i t body exit next_ f x signals pins compiled at_ inside counted =
    at_iteration_is p i t f (in_cycle x signals pins) (in_node p compiled i body exit next_ at_ f x signals pins inside) counted
