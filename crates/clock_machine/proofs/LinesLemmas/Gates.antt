-- The gates are told by how many iterations were found not to run.
use Rattle.std.proofs.Common.{◌≡◌, ℕ, zero, suc, ◌+◌, ◌-◌, ◌<◌, ◌≤◌, ◌^◌, true, false, ltb, not, Bool, ◌&&◌, inl, inr, sym, ap, ◌∙◌, arith, min}
use Rattle.std.proofs.lemmas.Bool.{cases_lt, lt-ltb, le-ltb}
use Rattle.clock_ir.specs.Flows.{pushed}
use Rattle.clock_machine.specs.Lines.Showing.{ShowsGates}

shows : (gates : ℕ → Bool) (failed j : ℕ) → j < failed → not (ltb j failed) ≡ false
shows gates failed j lt = ap not (lt-ltb j failed lt)

shows_not : (gates : ℕ → Bool) (failed j : ℕ) → failed ≤ j → not (ltb j failed) ≡ true
shows_not gates failed j le = ap not (le-ltb j failed le)

-- an iteration that runs, where none was found that does not
pub runs_still : (gates : ℕ → Bool) → ShowsGates gates 0 → ShowsGates (pushed (gates 0 && true) gates) 0
runs_still gates h zero lt = ap (λ x. x && true) (h 0 lt)
runs_still gates h (suc j) lt = h j (omega (arith, lt)) ∙ shows_not gates 0 j (omega arith) ∙ sym (shows_not gates 0 (suc j) (omega arith))

-- an iteration that does not run
pub fails : (gates : ℕ → Bool) (failed : ℕ) (holds : Bool) → ShowsGates gates failed → (gates 0 && holds) ≡ false → ShowsGates (pushed (gates 0 && holds) gates) (min (failed + 1) (2 ^ 64 - 1))
fails gates failed holds h off zero lt = off ∙ sym (shows gates (min (failed + 1) (2 ^ 64 - 1)) 0 (omega arith))
fails gates failed holds h off (suc j) lt = h j (omega (arith, lt)) ∙ elim (cases_lt j failed) [
  | inl less ↦ shows gates failed j less ∙ sym (shows gates (min (failed + 1) (2 ^ 64 - 1)) (suc j) (omega (arith, less, lt)))
  | inr more ↦ shows_not gates failed j more ∙ sym (shows_not gates (min (failed + 1) (2 ^ 64 - 1)) (suc j) (omega (arith, more)))
]
