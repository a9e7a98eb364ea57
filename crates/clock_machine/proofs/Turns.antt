-- Which operations start in a cycle.
use Rattle.std.proofs.Common.{◌≡◌, ◌≢◌, ℕ, suc, ◌%◌, ◌<◌, ◌≤◌, inl, inr, true, false, eqb, List, length, get_or, map, slice_get, Some, sym, ap, ◌∙◌, subst, arith}
use Rattle.std.proofs.lemmas.Bool.{cases_eq, eq-eqb, ne_eqb}
use Rattle.std.proofs.lemmas.List.{length-map}
use Rattle.std.proofs.lemmas.Nat.{mod_below}
use Rattle.ir_core.specs.Bodies.{Shapes}
use Rattle.clock_ir.specs.Flows.{TimedOp, TimedBody, Flow, is_at}
use Rattle.clock_machine.specs.declared.lines.program.Action.{Action}
use Rattle.clock_machine.specs.declared.lines.program.Work.{Work}
use Rattle.clock_machine.specs.Lines.Agendas.{phase_at, IsNext}
use Rattle.clock_machine.proofs.LinesLemmas.Phases.{comes, comes_not, not_yet}
use Rattle.clock_machine.specs.declared.state.State.{State}
use Rattle.clock_machine.specs.Standing.{IsAt}
use Rattle.clock_machine.proofs.Made.{start_of}

abbrev pub starts_in : Work → List ℕ
starts_in w = map (λ (a : Action). a.start) w.actions.items

module _ (shapes : Shapes) (b : TimedBody) (w : Work) (f : Flow) (s : State) (at : IsAt shapes b w f s) where
  abbrev phase : ℕ
  phase = s.moment.phase

  -- ---- operations

  pub off : (k : ℕ) (o : TimedOp) → slice_get b.ops k ≡ Some o → phase_at b.interval (starts_in w) k ≢ phase → is_at b.interval o.start f.time ≡ false
  off k o is differ = comes_not b.interval o.start f.time (λ e. differ (ap (λ t. t % b.interval) (start_of shapes.widths b w s.registers at.body.form k o is) ∙ e ∙ sym at.moment.phase_is))

  pub turn : (k : ℕ) (o : TimedOp) → slice_get b.ops k ≡ Some o → phase_at b.interval (starts_in w) k ≡ phase → o.start % b.interval ≡ phase
  turn k o is same = ap (λ t. t % b.interval) (sym (start_of shapes.widths b w s.registers at.body.form k o is)) ∙ same

  module _ (k : ℕ) (o : TimedOp) (a : Action) (o_is : slice_get b.ops k ≡ Some o) (a_is : slice_get w.actions.items k ≡ Some a) where
    pub waits : s.moment.time < a.start → is_at b.interval o.start f.time ≡ false
    waits late =
        let same = (at.body.form.work.actions k o a o_is a_is).start in
        let early = at.body.form.early k o o_is in
        not_yet b.interval o.start f.time (let z : f.time < o.start = omega (arith, at.moment.time_is, late, same, early) in z)

    pub starts_now : a.start ≤ s.moment.time → o.start % b.interval ≡ phase → is_at b.interval o.start f.time ≡ true
    starts_now come same =
        let start = (at.body.form.work.actions k o a o_is a_is).start in
        comes b.interval o.start f.time at.body.form.positive (same ∙ at.moment.phase_is) (let z : o.start ≤ f.time = omega (arith, come, start, at.moment.time_is) in z)

  -- ---- from one operation of the phase to the next one

  pub first_on : (k : ℕ) → k ≡ get_or w.starts.first.items phase 0 → IsNext b.interval (starts_in w) phase 0 k
  first_on k is =
      let small : phase < b.interval = subst (λ p. p < b.interval) (sym at.moment.phase_is) (mod_below f.time b.interval at.body.form.positive) in
      subst (IsNext b.interval (starts_in w) phase 0) (sym is) (at.body.form.work.starts.first phase small)

  pub next_on : (k n : ℕ) → k < length w.actions.items → phase_at b.interval (starts_in w) k ≡ phase → (k < get_or w.starts.next.items k 0 → n ≡ get_or w.starts.next.items k 0) → IsNext b.interval (starts_in w) phase (suc k) n
  next_on k n lt same is =
      let next = at.body.form.work.starts.next k (subst (λ m. k < m) (sym (length-map w.actions.items (λ (a : Action). a.start))) lt) in
      let n_is = is (let z : k < get_or w.starts.next.items k 0 = next.behind in z) in
      subst (λ q. IsNext b.interval (starts_in w) q (suc k) n) same (subst (IsNext b.interval (starts_in w) (phase_at b.interval (starts_in w) k) (suc k)) (sym n_is) next)

  pub at_next : (start k : ℕ) → IsNext b.interval (starts_in w) phase start k → k < length w.actions.items → phase_at b.interval (starts_in w) k ≡ phase
  at_next start k next lt = next.at (subst (λ n. k < n) (sym (length-map w.actions.items (λ (a : Action). a.start))) lt)

-- ---- times

-- some iteration is at a time of this phase that has come
pub at_time : (w t time p q : ℕ) → 0 < w → t ≤ time → p ≡ t % w → q ≡ time % w → eqb p q ≡ is_at w t time
at_time w t time p q some le p_is q_is = elim (cases_eq p q) [
  | inl same ↦ eq-eqb p q same ∙ sym (comes w t time some (sym p_is ∙ same ∙ q_is) le)
  | inr differ ↦ ne_eqb p q differ ∙ sym (comes_not w t time (λ e. differ (p_is ∙ e ∙ sym q_is)))
]

pub before_time : (w t time : ℕ) → time < t → false ≡ is_at w t time
before_time w t time late = sym (not_yet w t time late)
