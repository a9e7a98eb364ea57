-- Steps of a run, and a run that has ended.
use Rattle.std.proofs.Common.{◌≡◌, ℕ, zero, suc, ◌+◌, inl, inr, Option, refl, sym, ap, ap₂, ◌∙◌, subst, arith}
use Rattle.std.proofs.lemmas.Bool.{cases_eq}
use Rattle.ir_core.specs.Bodies.{Words}
use Rattle.clock_ir.specs.ClockRuns.{TimedProgram, Phase, starting, loading, inside, ended, clock_step, clock_run}
use Rattle.clock_machine.specs.declared.lines.program.Program.{Program}
use Rattle.clock_machine.specs.declared.state.Position.TheVariants as position
use Rattle.clock_machine.specs.declared.state.State.{State}
use Rattle.clock_machine.specs.Runs.{IsUnended, GoesOn}
use Rattle.clock_machine.specs.Standing.{StandsAt}
use Rattle.clock_machine.specs.Starts.{words_of}
use Rattle.clock_machine.proofs.Entering.{from_end}

pub begins_run : (p : TimedProgram) (t : Words) → clock_run p t 0 ≡ starting t
unfolding clock_run
begins_run p t = refl

next_run : (p : TimedProgram) (t : Words) (n : ℕ) → clock_run p t (suc n) ≡ clock_step p (clock_run p t n)
unfolding clock_run
next_run p t n = refl

pub one_more : (p : TimedProgram) (t : Words) (n : ℕ) → clock_run p t (n + 1) ≡ clock_step p (clock_run p t n)
one_more p t n = ap (clock_run p t) (let z : n + 1 ≡ suc n = omega arith in z) ∙ next_run p t n

pub steps_on : (p : TimedProgram) (g : Program) (t : Words) (n m : ℕ) (s : State) → m ≡ n + 1 → StandsAt p g (clock_step p (clock_run p t n)) s → StandsAt p g (clock_run p t m) s
steps_on p g t n m s e h = subst (λ k. StandsAt p g (clock_run p t k) s) (sym e) (subst (λ x. StandsAt p g x s) (sym (one_more p t n)) h)

-- it stays as it is
same_end : (p : TimedProgram) (g : Program) (t : Words) (n : ℕ) (s : State) → StandsAt p g (clock_run p t n) s → s.position ≡ position.Ended → (k : ℕ) → clock_run p t (n + k) ≡ clock_run p t n
same_end p g t n s h is zero = ap (clock_run p t) (let z : n + 0 ≡ n = omega arith in z)
same_end p g t n s h is (suc k) =
    ap (clock_run p t) (let z : n + suc k ≡ suc (n + k) = omega arith in z) ∙ next_run p t (n + k) ∙ ap (clock_step p) (same_end p g t n s h is k) ∙ from_end p g (clock_run p t n) s h is

pub ends_so : (p : TimedProgram) (g : Program) (t : Words) (n k m : ℕ) (s : State) → StandsAt p g (clock_run p t n) s → s.position ≡ position.Ended → m ≡ n + k → StandsAt p g (clock_run p t m) s
ends_so p g t n k m s h is e = subst (λ i. StandsAt p g (clock_run p t i) s) (sym e) (subst (λ x. StandsAt p g x s) (sym (same_end p g t n s h is k)) h)

-- what a machine has at the end of a run
pub last_of : (p : TimedProgram) (g : Program) (t last : Words) (n : ℕ) (w : Option ℕ) (s : State) → StandsAt p g (clock_run p t n) s → clock_run p t n ≡ ended w last → (s.position ≡ position.Ended) × (s.returned ≡ w) × (words_of s ≡ last)
last_of p g t last n w s h e = (subst (λ x. StandsAt p g x s) e h).in_phase

-- ---- whether a run has ended

end_of : (p : TimedProgram) (g : Program) (phase : Phase) (s : State) → StandsAt p g phase s → s.position ≡ position.Ended → phase ≡ ended s.returned (words_of s)
end_of p g (starting t) s h is = absurd (let z = sym h.in_phase.0 ∙ is in cc)
end_of p g (loading i t) s h is = absurd (let z = sym h.in_phase.0 ∙ is in cc)
end_of p g (inside i f) s h is = absurd (let z = sym h.in_phase.0 ∙ is in cc)
end_of p g (ended w t) s h is = ap₂ ended (sym h.in_phase.1) (sym h.in_phase.2)

-- where a machine is at its end
pub is_over : (p : TimedProgram) (g : Program) (t : Words) (n : ℕ) (s : State) → StandsAt p g (clock_run p t n) s → s.position ≡ position.Ended → clock_run p t n ≡ ended s.returned (words_of s)
is_over p g t n s h is = end_of p g (clock_run p t n) s h is

-- where it is not
pub is_unended : (p : TimedProgram) (g : Program) (t : Words) (n : ℕ) (s : State) → StandsAt p g (clock_run p t n) s → (s.position ≡ position.Ended → ⊥) → IsUnended p t n
is_unended p g t n s h no_ word last e = no_ (last_of p g t last n word s h e).0

pub goes_on_first : (p : TimedProgram) (t : Words) → GoesOn p t 0
goes_on_first p t m le word last e = (let z : m ≡ 0 = omega (arith, le) in let q : starting t ≡ ended word last = sym (begins_run p t) ∙ ap (clock_run p t) (sym z) ∙ e in absurd (cc))

pub goes_on_more : (p : TimedProgram) (t : Words) (n : ℕ) → GoesOn p t n → IsUnended p t (n + 1) → GoesOn p t (n + 1)
goes_on_more p t n before this m le = elim (cases_eq m (n + 1)) [
  | inl same ↦ subst (IsUnended p t) (sym same) this
  | inr differ ↦ before m (omega (arith, le, differ))
]
