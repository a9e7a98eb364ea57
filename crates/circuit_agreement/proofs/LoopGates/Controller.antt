-- The controller stays in a node and leaves it as the clocked run does.
use Rattle.std.proofs.Common.{◌≡◌, ℕ, suc, ◌+◌, ◌*◌, ◌/◌, ◌%◌, ◌<◌, Bool, true, false, not, Some, refl, sym, ap, ◌∙◌, subst, inl, inr, mod-eq_of_lt, div-add-mod', arith}
use Rattle.std.specs.Prelude.{slice_get}
use Rattle.std.proofs.lemmas.Bool.{cases_Bool, and_from, and_parts, cond-true, cond-false, lt-ltb, not_from_false, false≢true}
use Rattle.std.proofs.lemmas.Nat.{mod-mul-add, mod_below}
use Rattle.clock_ir.specs.Flows.{TimedBody, Flow, is_at, runs_at, tick}
use Rattle.clock_ir.specs.ClockRuns.{block, overlapped, inside, load, loop_left, node_step, loop_step}
use Rattle.datapath.specs.Plans.{Plan, body_at, span}
use Rattle.datapath.specs.Cycles.{Cycle, in_cycle}
use Rattle.datapath.specs.Control.{leaves_loop, leaves_as, wait}
use Rattle.datapath.specs.Standing.{IsInside}
use Rattle.datapath.proofs.Controller.{loads_first, stays_inside}
use Rattle.datapath.proofs.Loops.{stays_in_loops, leaves_loops}
use Rattle.circuit_agreement.specs.CircuitFlow.Flows.{LeavesAsRun}
use Rattle.circuit_agreement.proofs.Nodes.{positive, body_found}
use Rattle.circuit_agreement.specs.CircuitFlow.LoopGates.Gates.{is_left}
use Rattle.circuit_agreement.specs.CircuitFlow.LoopGates.{LoopsBegin, LoopsGoOn, LoopsLead, BlocksGoOn}
use Rattle.circuit_agreement.proofs.LoopGates.Turns.{tick_time, first_time}

-- one more than a remainder
next_rest : (time n : ℕ) → 0 < n → (time % n + 1) % n ≡ suc time % n
next_rest time n some = sym (ap (λ m. m % n) (let d = div-add-mod' time n in let z : suc time ≡ time / n * n + (time % n + 1) = omega (arith, d) in z) ∙ whole (time / n) (time % n + 1))
  where
    whole : (q r : ℕ) → (q * n + r) % n ≡ r % n
    whole q r =
        let d : r / n * n + r % n ≡ r = div-add-mod' r n in
        let sum : (q + r / n) * n ≡ q * n + r / n * n = omega arith in
        ap (λ m. m % n) (let z : q * n + r ≡ (q + r / n) * n + r % n = omega (arith, d, sum) in z) ∙ mod-mul-add (q + r / n) n (r % n) (mod_below r n some)

-- ---- loops

body_is : (p : Plan) (i : ℕ) (body : TimedBody) (exit next : ℕ) → slice_get p.program.nodes i ≡ Some (overlapped body exit next)
    → slice_get p.program.nodes i ≡ Some (overlapped (body_at p i) exit next)
body_is p i body exit next at_ = at_ ∙ ap (λ (b : TimedBody). Some (overlapped b exit next)) (sym (body_found p i (overlapped body exit next) at_))

leaves_is : (p : Plan) (i : ℕ) (body : TimedBody) (exit next : ℕ) (f : Flow) (c : Cycle) (left : Bool) → slice_get p.program.nodes i ≡ Some (overlapped body exit next) → LeavesAsRun p i exit f c
    → is_left (body_at p i) exit f ≡ left → leaves_as p c i (overlapped body exit next) ≡ left
leaves_is p i body exit next f c left at_ leaves e = ap (λ (b : TimedBody). leaves_loop p c i (wait b exit)) (sym (body_found p i (overlapped body exit next) at_)) ∙ (leaves ∙ e)

pub loops_begin : LoopsBegin
loops_begin p i body exit next t x y pins at_ r loads step = (
  ap (load i t) (body_is p i body exit next at_),
  subst (λ n. IsInside i n y) (sym (ap (λ n. n % span p i) (first_time (body_at p i) t) ∙ (let z : 0 % span p i ≡ 0 = mod-eq_of_lt (omega arith) in z)))
      (loads_first p i body exit next x y pins at_ r loads step),
)

pub loops_go_on : LoopsGoOn
loops_go_on p i body exit next f x y pins compiled at_ r inside_ step leaves unleft = (
  ap (node_step p.program.shapes p.program.nodes i f) (body_is p i body exit next at_) ∙ goes,
  subst (λ n. IsInside i n y) (next_rest f.time (span p i) wide ∙ ap (λ n. n % span p i) (sym (tick_time p.program.shapes (body_at p i) f)))
      (stays_in_loops p i (f.time % span p i) body exit next x y pins compiled.counts at_ (mod_below f.time (span p i) wide) r inside_ step
      (leaves_is p i body exit next f (in_cycle x step.signals pins) false at_ leaves unleft)),
)
  where
    wide : 0 < span p i
    wide = omega arith

    goes : loop_step p.program.shapes p.program.nodes i (body_at p i) exit next f ≡ inside i (tick p.program.shapes (body_at p i) f)
    goes = elim (cases_Bool (is_at (body_at p i).interval exit f.time)) [
      | inl on ↦
          elim (cases_Bool (runs_at (body_at p i) f exit)) [
            | inl runs ↦ cond-true _ _ _ on ∙ cond-true _ _ _ runs
            | inr shut ↦ absurd (false≢true (sym unleft ∙ and_from _ _ on (not_from_false _ shut)))
          ]
      | inr off ↦ cond-false _ _ _ off
    ]

pub loops_lead : LoopsLead
loops_lead p i body exit next f x y pins at_ r inside_ step leaves left = (
  ap (node_step p.program.shapes p.program.nodes i f) (body_is p i body exit next at_) ∙ leads,
  leaves_loops p i (f.time % span p i) body exit next x y pins at_ r inside_ step (leaves_is p i body exit next f (in_cycle x step.signals pins) true at_ leaves left),
)
  where
    not_true : (b : Bool) → not b ≡ true → b ≡ false
    not_true true e = absurd (false≢true e)
    not_true false e = refl

    leads : loop_step p.program.shapes p.program.nodes i (body_at p i) exit next f ≡ loop_left p.program.shapes p.program.nodes (body_at p i) exit next f
    leads =
        let parts = and_parts (is_at (body_at p i).interval exit f.time) (not (runs_at (body_at p i) f exit)) left in
        cond-true _ _ _ parts.0 ∙ cond-false _ _ _ (not_true (runs_at (body_at p i) f exit) parts.1)

-- ---- blocks

pub blocks_go_on : BlocksGoOn
blocks_go_on p i body end_ f x y pins compiled at_ more r inside_ step = (
  ap (node_step p.program.shapes p.program.nodes i f) (at_ ∙ ap (λ (b : TimedBody). Some (block b end_)) (sym (body_found p i (block body end_) at_))) ∙ cond-true _ _ _ (lt-ltb (f.time + 1) (body_at p i).interval more),
  subst (λ n. IsInside i n y) (sym (ap (λ n. n % span p i) (tick_time p.program.shapes (body_at p i) f) ∙ (mod-eq_of_lt low ∙ (let z : suc f.time ≡ f.time + 1 = omega arith in z))))
      (stays_inside p i f.time body end_ x y pins compiled.counts at_ (omega (arith, long, more)) r (subst (λ n. IsInside i n x) (mod-eq_of_lt short) inside_) step),
)
  where
    long : span p i ≡ (body_at p i).interval
    long = (positive p i (block body end_) compiled at_).1

    low : suc f.time < span p i
    low = omega (arith, long, more)

    short : f.time < span p i
    short = omega (arith, long, more)
