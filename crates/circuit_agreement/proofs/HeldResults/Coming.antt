-- When the times of a node come, as the circuit sees it.
use Rattle.std.proofs.Common.{◌≡◌, ℕ, suc, ◌+◌, ◌-◌, ◌*◌, ◌/◌, ◌%◌, ◌<◌, ◌≤◌, ◌==◌, nat_le, true, Some, inl, inr, sym, ap, ◌∙◌, arith, div-add-mod', mod-lt}
use Rattle.std.specs.Prelude.{slice_get}
use Rattle.std.proofs.lemmas.Bool.{and_from, and_parts, or_right, or_cases, eq-eqb, eqb-true, le-leb, leb-true, cases_lt}
use Rattle.ir_core.specs.declared.timed.Timed.{Timed}
use Rattle.ir_core.specs.declared.cfg.Node.{Node}
use Rattle.clock_ir.specs.Flows.{Flow, is_at}
use Rattle.clock_runs.proofs.Numbers.{turn, is_at_sure, is_at_true, later_turn}
use Rattle.datapath.specs.Plans.{Plan, body_at, span}
use Rattle.datapath.specs.Cycles.{Time, Active, Contents, Cycle, holds}
use Rattle.datapath.specs.Reading.{at, has_passed, at_iteration}
use Rattle.datapath.specs.Standing.{IsInside}
use Rattle.datapath.proofs.Controller.{on}
use Rattle.circuit_agreement.specs.CircuitFlow.Compiled.{IsCompiled}
use Rattle.circuit_agreement.specs.CircuitFlow.Flows.{CountsIntervals}
use Rattle.circuit_agreement.proofs.HeldResults.Nodes.{wide, span_is}
use Rattle.circuit_agreement.proofs.HeldResults.Times.{turns_apart, rest_same, same_test, turn_more, comes_next, came_at}

-- so many whole intervals that this is no later than t, and the same rest
reached : (w t time : ℕ) → 0 < w → time % w ≡ t % w → t / w * w ≤ time → t ≤ time
reached w t time some same passed =
    let a : t / w * w + t % w ≡ t = div-add-mod' t w in
    let b : time / w * w + time % w ≡ time = div-add-mod' time w in
    let small : time % w < w = mod-lt time some in
    elim (cases_lt (time / w) (t / w)) [
      | inl less ↦
          let l = later_turn w (time / w + 1) (t / w) (omega (arith, less)) in
          let m = turn_more (time / w) w in
          omega (arith, a, b, same, passed, l, m, small)
      | inr more ↦ (let l = later_turn w (t / w) (time / w) more in omega (arith, a, b, same, l))
    ]

module _ (p : Plan) (c : IsCompiled p) (i : ℕ) (nd : Node Timed) (stands : slice_get c.timed.nodes.items i ≡ Some nd)
    (f : Flow) (x : Contents) (cycle : Cycle) (same : cycle.regs ≡ x.regs) (inside : IsInside i (f.time % span p i) x) where
  abbrev w : ℕ
  w = (body_at p i).interval

  some : 0 < w
  some = (let h = wide p c i nd stands in omega (arith, h))

  active : holds cycle (Active i) ≡ true
  active = on cycle (Active i) (ap (λ r. r (Active i)) same ∙ inside.active)

  now : cycle.regs Time ≡ f.time % w
  now = ap (λ r. r Time) same ∙ (inside.time ∙ ap (λ s. f.time % s) (span_is p c i nd stands))

  pub at_on : (t : ℕ) → f.time % w ≡ t % w → at p cycle i t ≡ true
  at_on t e = and_from _ _ active (or_right (nat_le (span p i) 1) _ (eq-eqb _ _ (now ∙ (e ∙ ap (λ s. t % s) (sym (span_is p c i nd stands))))))

  pub at_true : (t : ℕ) → at p cycle i t ≡ true → f.time % w ≡ t % w
  at_true t h = elim (or_cases (nat_le (span p i) 1) (cycle.regs Time == t % span p i) (and_parts _ _ h).1) [
    | inl short ↦
        let one : span p i ≤ 1 = leb-true (span p i) 1 short in
        let is = span_is p c i nd stands in
        let a : f.time % w < w = mod-lt f.time some in
        let b : t % w < w = mod-lt t some in
        omega (arith, one, is, a, b)
    | inr level ↦ sym now ∙ (eqb-true _ _ level ∙ ap (λ s. t % s) (span_is p c i nd stands))
  ]

  -- the time before one at which a result is there
  pub arrival_at : (a : ℕ) → 1 ≤ a → a ≤ f.time + 1 → at p cycle i (a - 1) ≡ is_at w a (suc f.time)
  arrival_at a first low =
      same_test _ _ (λ h. comes_next w a f.time some first low (at_true (a - 1) h)) (λ h. at_on (a - 1) (came_at w a f.time first h))

  pub iteration_same : CountsIntervals p i f cycle → (t : ℕ) → at_iteration p cycle i t ≡ is_at w t f.time
  iteration_same counts t = same_test _ _ from to
    where
      passed_is : has_passed cycle (t / span p i) ≡ nat_le (t / w * w) f.time
      passed_is = ap (λ s. has_passed cycle (t / s)) (span_is p c i nd stands) ∙ counts (t / w)

      from : at_iteration p cycle i t ≡ true → is_at w t f.time ≡ true
      from h =
          let parts = and_parts (at p cycle i t) (has_passed cycle (t / span p i)) h in
          let rest = at_true t parts.0 in
          let passed : t / w * w ≤ f.time = leb-true _ _ (sym passed_is ∙ parts.1) in
          let q = turns_apart w f.time t some (reached w t f.time some rest passed) rest in
          is_at_sure w some q.0 t f.time q.1

      to : is_at w t f.time ≡ true → at_iteration p cycle i t ≡ true
      to h =
          let e = is_at_true w t f.time h in
          let d : t / w * w + t % w ≡ t = div-add-mod' t w in
          and_from _ _ (at_on t (rest_same w f.time (turn w t f.time) t e)) (passed_is ∙ le-leb _ _ (omega (arith, e, d)))
