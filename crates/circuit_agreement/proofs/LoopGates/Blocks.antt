-- A block runs once, and its stores are let through.
use Rattle.std.proofs.Common.{◌≡◌, ℕ, zero, suc, ◌-◌, ◌*◌, ◌/◌, ◌%◌, ◌<◌, Bool, true, not, ◌&&◌, List, Some, sym, ap, ap₂, ◌∙◌, inl, inr, arith}
use Rattle.std.specs.Prelude.{◌||◌, slice_get}
use Rattle.std.proofs.lemmas.Bool.{cases_Bool, and_from, and_left, or_left, not_from_false, le-leb}
use Rattle.ir_core.specs.declared.cfg.End.{End}
use Rattle.clock_ir.specs.Flows.{TimedBody, Flow, known, is_at, place, holds_at, gates_now, runs_at, first_flow, tick}
use Rattle.clock_ir.specs.ClockRuns.{block}
use Rattle.datapath.specs.Plans.{Plan, body_at, span}
use Rattle.datapath.specs.Cycles.{Signal, Contents, Cycle, in_cycle}
use Rattle.datapath.specs.Reading.{has_passed, at_iteration}
use Rattle.datapath.specs.Control.{has_test, is_loop, gate_at}
use Rattle.datapath.specs.Standing.{IsInside}
use Rattle.circuit_agreement.specs.CircuitFlow.Compiled.{IsCompiled}
use Rattle.circuit_agreement.specs.CircuitFlow.Flows.{StoresAsRun}
use Rattle.circuit_agreement.proofs.Nodes.{positive}
use Rattle.clock_runs.proofs.Numbers.{quotient}
use Rattle.circuit_agreement.specs.CircuitFlow.LoopGates.Gates.{RunsOnce}
use Rattle.circuit_agreement.specs.CircuitFlow.LoopGates.{BlocksRun, BlocksRunOn, BlocksStore}
use Rattle.circuit_agreement.proofs.LoopGates.Times.{shows, is_at_shown}
use Rattle.circuit_agreement.proofs.LoopGates.Turns.{Tested, is_tested_now, is_quiet_now, tick_time, tick_gates, first_time, first_gates}
use Rattle.circuit_agreement.proofs.LoopGates.Known.{starts_within, no_test}
use Rattle.circuit_agreement.proofs.LoopGates.Cycles.{InNode, at_is}
use Rattle.circuit_agreement.proofs.LoopGates.Uses.{and_same}

-- gates that are open stay so where a test holds
pub stay_open : (b : TimedBody) (f : Flow) → 0 < b.interval → ((k : ℕ) → f.gates k ≡ true) → holds_at b f (known b) b.test ≡ true → (k : ℕ) → gates_now b f k ≡ true
stay_open b f some open_ holds k = elim (cases_Bool (is_at b.interval (known b) f.time)) [ inl on ↦ at_test (is_tested_now b f some on) k | inr off ↦ (is_quiet_now b f some off).same k ∙ open_ k ]
  where
    at_test : Tested b f → (k : ℕ) → gates_now b f k ≡ true
    at_test t zero = t.first ∙ and_from (f.gates 0) (holds_at b f (known b) b.test) (open_ 0) holds
    at_test t (suc k) = t.others k ∙ open_ k

module _ (p : Plan) (compiled : IsCompiled p) (i : ℕ) (body : TimedBody) (end_ : End) (at_ : slice_get p.program.nodes i ≡ Some (block body end_)) where
  abbrev b : TimedBody
  b = body_at p i

  abbrev w : ℕ
  w = (body_at p i).interval

  pub some : 0 < w
  some = let h = (positive p i (block body end_) compiled at_).0 in omega (arith, h)

  pub long : span p i ≡ w
  long = (positive p i (block body end_) compiled at_).1

  holds : (f : Flow) → holds_at b f (known b) b.test ≡ true
  holds f = ap (holds_at b f (known b)) (no_test p compiled i body end_ at_)

  open_then : (f : Flow) → RunsOnce b f → (k : ℕ) → gates_now b f k ≡ true
  open_then f h k = stay_open b f some h.runs (holds f) k

  module _ (f : Flow) (x : Contents) (signals : Signal → ℕ) (pins : List ℕ) (inside : IsInside i (f.time % span p i) x) (h : RunsOnce b f) where
    abbrev c : Cycle
    c = in_cycle x signals pins

    node_ : InNode p i f.time c
    node_ = record {
      some = some;
      long = long;
      active = inside.active;
      time = inside.time ∙ ap (λ n. f.time % n) long;
      others = inside.others;
      load = inside.load;
    }

    -- the circuit is at a time of the block as the clocked run is
    at_iteration_as : (t : ℕ) → t < w → at_iteration p c i t ≡ is_at w t f.time
    at_iteration_as t lt =
        let first : t / w ≡ 0 = quotient t 0 w t (omega arith) lt in
        let passed : has_passed c (t / span p i) ≡ true = ap (λ n. has_passed c (t / n)) long ∙ ap (has_passed c) first in
        let low : t / w * w ≡ 0 = ap (λ n. n * w) first ∙ (let z : 0 * w ≡ 0 = omega arith in z) in
        ap₂ (λ y z. y && z) (at_is p i f.time t c node_) passed
        ∙ (ap (λ y. shows w (f.time % w) t && y) (sym (le-leb (t / w * w) f.time (omega (arith, low)))) ∙ is_at_shown w t f.time some)

    pub stores_as : StoresAsRun p i f c
    stores_as k it op kind =
        and_same (at_iteration p c i it.start) (not (is_loop (slice_get p.program.nodes i) && has_test p i) || gate_at p c i (it.start - known b)) (is_at w it.start f.time) (runs_at b f it.start)
        (at_iteration_as it.start (starts_within p compiled i body end_ at_ k it op))
        (λ on_. or_left (not (is_loop (slice_get p.program.nodes i) && has_test p i)) (gate_at p c i (it.start - known b))
        (not_from_false _ (and_left (is_loop (slice_get p.program.nodes i)) (has_test p i) (ap is_loop at_)))
        ∙ sym (open_then f h (place w (known b) it.start 0)))

-- ---- laws

pub blocks_run : BlocksRun
blocks_run p i body end_ t compiled at_ =
    let now : (first_flow (body_at p i) t).time ≡ 0 = first_time (body_at p i) t in
    let wide : 0 < (body_at p i).interval = some p compiled i body end_ at_ in
    record { time = omega (arith, now, wide); runs = first_gates (body_at p i) t }

pub blocks_run_on : BlocksRunOn
blocks_run_on p i body end_ f compiled at_ more h =
    let now : (tick p.program.shapes (body_at p i) f).time ≡ suc f.time = tick_time p.program.shapes (body_at p i) f in
    record {
      time = omega (arith, now, more);
      runs = λ k. ap (λ (gates : ℕ → Bool). gates k) (tick_gates p.program.shapes (body_at p i) f) ∙ open_then p compiled i body end_ at_ f h k;
    }

pub blocks_store : BlocksStore
blocks_store p i body end_ f x signals pins compiled at_ inside h = stores_as p compiled i body end_ at_ f x signals pins inside h
