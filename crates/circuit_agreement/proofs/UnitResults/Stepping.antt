-- Cycle by cycle the units are on with what is under way.
use Rattle.std.proofs.Common.{◌≡◌, ℕ, zero, suc, ◌+◌, ◌≤◌, true, Some, refl, sym, ap, ◌∙◌, subst, arith}
use Rattle.std.specs.Prelude.{slice_get}
use Rattle.clock_ir.specs.Flows.{TimedOp, TimedBody, Flow, is_at, first_flow, tick}
use Rattle.clock_ir.specs.ClockRuns.{block}
use Rattle.datapath.specs.Plans.{Plan, body_at}
use Rattle.circuit_agreement.specs.CircuitFlow.Compiled.{IsDivision}
use Rattle.circuit_agreement.proofs.Nodes.{body_found, positive}
use Rattle.circuit_agreement.specs.UnitResults.UnderWay.{IsWithin, HasStarted, Divides}
use Rattle.circuit_agreement.specs.UnitResults.{UnitsBegin, UnitsStep}
use Rattle.circuit_agreement.proofs.UnitResults.Times.{at_parts, at_before}
use Rattle.circuit_agreement.proofs.UnitResults.Cycles.{Going, ticked_time, ticked_under_way}
use Rattle.circuit_agreement.proofs.UnitResults.Multiplying.{factors_taken}
use Rattle.circuit_agreement.proofs.UnitResults.Loading.{word_read}
use Rattle.circuit_agreement.proofs.UnitResults.DivisionSteps.{division_begins, division_goes_on}

-- ---- the first cycle

first_time : (b : TimedBody) (t : _) → (first_flow b t).time ≡ 0
unfolding first_flow
first_time b t = refl

none_started : {X : Type 0} (p : Plan) (i : ℕ) (f : Flow) (it : TimedOp) (ago : ℕ) → f.time ≡ 0 → 1 ≤ ago → HasStarted p i f it ago → X
none_started p i f it ago begins some started = absurd (let h = (at_parts (body_at p i).interval (it.start + ago) f.time started).begun in omega (arith, h, begins, some))

pub units_begin : UnitsBegin
units_begin p i n t x compiled there =
    let b : TimedBody = body_at p i in
    let f : Flow = first_flow b t in
    let begins = first_time b t in
    record {
      within = λ body end_ e.
          let some = (positive p i n compiled there).0 in
          let same : b ≡ body = body_found p i (block body end_) e in
          let width : b.interval ≡ body.interval = ap (λ (z : TimedBody). z.interval) same in
          omega (arith, begins, some, width);
      products = λ k it is kind started. none_started p i f it 1 begins (omega arith) started;
      words = λ k it array is kind named started. none_started p i f it 1 begins (omega arith) started;
      divisions = λ k m it is kind le started. none_started p i f it (suc m) begins (omega arith) started;
    }

-- ---- the next one

-- it started a cycle less ago in the cycle before
sooner : (p : Plan) (i : ℕ) (f : Flow) (it : TimedOp) (ago : ℕ) → HasStarted p i (tick p.program.shapes (body_at p i) f) it (suc ago) → is_at (body_at p i).interval (it.start + ago) f.time ≡ true
sooner p i f it ago h =
    let w : ℕ = (body_at p i).interval in
    at_before w (it.start + ago) f.time
    (subst (λ (t : ℕ). is_at w (it.start + ago + 1) t ≡ true) (ticked_time p i f)
    (subst (λ (t : ℕ). is_at w t (tick p.program.shapes (body_at p i) f).time ≡ true) (let e : it.start + suc ago ≡ it.start + ago + 1 = omega arith in e) h))

just_now : (p : Plan) (i : ℕ) (f : Flow) (it : TimedOp) → HasStarted p i (tick p.program.shapes (body_at p i) f) it 1 → is_at (body_at p i).interval it.start f.time ≡ true
just_now p i f it h = subst (λ (t : ℕ). is_at (body_at p i).interval t f.time ≡ true) (let e : it.start + 0 ≡ it.start = omega arith in e) (sooner p i f it 0 h)

pub units_step : UnitsStep
units_step p i n f x y pins compiled there inside widths memories step sees under within =
    let g : Going p i f x step.signals pins = record { node = n; there = there; compiled = compiled; inside = inside; within = under.within; sees = sees } in
    let next : Flow = tick p.program.shapes (body_at p i) f in
    let divisions_ : (k m : ℕ) (it : TimedOp) → slice_get (body_at p i).ops k ≡ Some it → IsDivision it.op.kind → m ≤ it.op.bits → HasStarted p i next it (suc m) → Divides p i next y k m it =
    λ (k m : ℕ) (it : TimedOp) is division. by_age k it is division m in
    record {
      within = subst (IsWithin p i) (sym (ticked_time p i f)) within;
      products = λ k it is kind started.
          factors_taken p i f x y step.signals pins g step.is_cycle step.is_after k it is kind (compiled.fits.bits i k it is) (just_now p i f it started) ∙ sym (ticked_under_way p i f k 0 it is);
      words = λ k it array is kind named started.
          word_read p i f x step.signals pins g k it array is kind named (just_now p i f it started) y step.is_cycle step.is_after memories ∙ sym (ticked_under_way p i f k 0 it is);
      divisions = divisions_;
    }
  where
    by_age : (k : ℕ) (it : TimedOp) → slice_get (body_at p i).ops k ≡ Some it → IsDivision it.op.kind → (m : ℕ) → m ≤ it.op.bits → HasStarted p i (tick p.program.shapes (body_at p i) f) it (suc m)
        → Divides p i (tick p.program.shapes (body_at p i) f) y k m it
    by_age k it is division zero le started =
        let g : Going p i f x step.signals pins = record { node = n; there = there; compiled = compiled; inside = inside; within = under.within; sees = sees } in
        division_begins p i f x y step.signals pins g step.is_cycle step.is_after k it is division (just_now p i f it started) widths
    by_age k it is division (suc m) le started =
        let g : Going p i f x step.signals pins = record { node = n; there = there; compiled = compiled; inside = inside; within = under.within; sees = sees } in
        let before : HasStarted p i f it (suc m) = sooner p i f it (suc m) started in
        division_goes_on p i f x y step.signals pins g step.is_cycle step.is_after k it is division m (omega (arith, le)) before (under.divisions k m it is division (omega (arith, le)) before)
