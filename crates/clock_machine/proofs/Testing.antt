-- What a test that is known in a cycle does to the gates.
use Rattle.std.proofs.Common.{◌≡◌, ℕ, zero, suc, ◌+◌, ◌-◌, ◌^◌, min, Bool, true, false, not, ◌&&◌, eqb, ltb, refl, sym, ap, ◌∙◌, subst, arith}
use Rattle.std.proofs.lemmas.Bool.{cond-true, cond-false, and_parts, eq-eqb, eqb-true, ne_eqb, lt-ltb, le-ltb}
use Rattle.clock_ir.specs.Flows.{TimedBody, Flow, holds_at, known, is_at, gates_now, pushed}
use Rattle.clock_machine.specs.Lines.Showing.{ShowsGates}
use Rattle.clock_machine.proofs.LinesLemmas.Gates.{runs_still, fails}

-- the iteration before runs where none was found that does not
none_failed : (failed : ℕ) → not (ltb 0 failed) ≡ eqb failed 0
none_failed zero = ap not (le-ltb 0 0 (omega arith)) ∙ sym (eq-eqb 0 0 refl)
none_failed (suc n) = ap not (lt-ltb 0 (suc n) (omega arith)) ∙ sym (ne_eqb (suc n) 0 (λ e. absurd (omega (arith, e))))

pub one_before : (f : Flow) (failed : ℕ) → ShowsGates f.gates failed → f.gates 0 ≡ eqb failed 0
one_before f failed gates = gates 0 (omega arith) ∙ none_failed failed

module _ (b : TimedBody) (f : Flow) (failed : ℕ) (gates : ShowsGates f.gates failed) where
  abbrev holds : Bool
  holds = holds_at b f (known b) b.test

  pub seen_fails : is_at b.interval (known b) f.time ≡ true → (f.gates 0 && holds) ≡ false → ShowsGates (gates_now b f) (min (failed + 1) (2 ^ 64 - 1))
  seen_fails on off =
      subst (λ g. ShowsGates g (min (failed + 1) (2 ^ 64 - 1))) (sym (cond-true (is_at b.interval (known b) f.time) (pushed (f.gates 0 && holds) f.gates) f.gates on)) (fails f.gates failed holds gates off)

  pub seen_runs : is_at b.interval (known b) f.time ≡ true → (f.gates 0 && holds) ≡ true → ShowsGates (gates_now b f) failed
  seen_runs on runs =
      let parts = and_parts (f.gates 0) holds runs in
      let none_ : failed ≡ 0 = none_of failed (sym (one_before f failed gates) ∙ parts.0) in
      subst (λ g. ShowsGates g failed) (sym (cond-true (is_at b.interval (known b) f.time) (pushed (f.gates 0 && holds) f.gates) f.gates on))
      (subst (λ h. ShowsGates (pushed (f.gates 0 && h) f.gates) failed) (sym parts.1)
      (subst (λ n. ShowsGates (pushed (f.gates 0 && true) f.gates) n) (sym none_) (runs_still f.gates (subst (ShowsGates f.gates) none_ gates))))
    where
      none_of : (n : ℕ) → eqb n 0 ≡ true → n ≡ 0
      none_of n e = eqb-true n 0 e

  pub not_seen : is_at b.interval (known b) f.time ≡ false → ShowsGates (gates_now b f) failed
  not_seen off = subst (λ g. ShowsGates g failed) (sym (cond-false (is_at b.interval (known b) f.time) (pushed (f.gates 0 && holds) f.gates) f.gates off)) gates
