-- Machines end as the clocked runs do in which they stand.
use Rattle.std.proofs.Common.{◌≡◌, ℕ, zero, suc, ◌+◌, ◌-◌, ap, sym, subst, refl, ◌∙◌, Option, inl, inr, arith}
use Rattle.std.proofs.lemmas.Bool.{cases_lt}
use Rattle.ir_core.specs.declared.machine.Halt.TheVariants as halt
use Rattle.ir_core.specs.Halts.{HasHalted}
use Rattle.ir_core.specs.Bodies.{Words}
use Rattle.clock_ir.specs.ClockRuns.{TimedProgram, Phase, starting, loading, inside, ended, timed_program, clock_step, clock_run}
use Rattle.clock_machine.specs.declared.lines.program.Program.{Program}
use Rattle.clock_machine.specs.declared.machine.ClockMachine.{ClockMachine}
use Rattle.clock_machine.specs.declared.state.Position.{Position}
use Rattle.clock_machine.specs.declared.state.Position.TheVariants as position
use Rattle.clock_machine.specs.declared.state.State.{State}
use Rattle.clock_machine.specs.Halts.{halt_at}
use Rattle.clock_machine.specs.Runs.{IsBehind, RunEndsAfter}
use Rattle.clock_machine.specs.Standing.{IsInPhase, StandsAt}
use Rattle.clock_machine.proofs.Runs.{one_more}
use Rattle.clock_runs.specs.Laws.{IsEnded, run_cycles}
use Rattle.timed_pieces.proofs.SoundPrograms.Whole.{kept_runs}
use Rattle.timed_pieces.specs.Laws.{node_count}
use Rattle.source_validity.specs.SourceMachines.WholePrograms.Machines.{MachineHaltsAtEnd, EndedRunsEndMachines, RunsEndOnce, ScheduledMachinesKeepRuns}

-- ---- where a machine has halted

halted_at : (q : Position) → HasHalted (halt_at q) → q ≡ position.Ended
halted_at position.Start h = absurd h
halted_at (position.Loading i) h = absurd h
halted_at (position.Inside i) h = absurd h
halted_at position.Ended h = refl

runs_at : (q : Position) → (HasHalted (halt_at q) → ⊥) → halt_at q ≡ halt.Running
runs_at position.Start h = refl
runs_at (position.Loading i) h = refl
runs_at (position.Inside i) h = refl
runs_at position.Ended h = absurd (h tt)

module _ (p : TimedProgram) (g : Program) (s : State) where
  ends_there : (x : Phase) → IsInPhase p g x s → HasHalted (halt_at s.position) → IsEnded x
  ends_there (starting t) h is = subst (λ q. HasHalted (halt_at q)) h.0 is
  ends_there (loading i t) h is = subst (λ q. HasHalted (halt_at q)) h.0 is
  ends_there (inside i f) h is = subst (λ q. HasHalted (halt_at q)) h.0 is
  ends_there (ended w t) h is = tt

  halts_there : (x : Phase) → IsInPhase p g x s → IsEnded x → HasHalted (halt_at s.position)
  halts_there (starting t) h is = absurd is
  halts_there (loading i t) h is = absurd is
  halts_there (inside i f) h is = absurd is
  halts_there (ended w t) h is = subst (λ q. HasHalted (halt_at q)) (sym h.0) tt

pub halts_at_end : MachineHaltsAtEnd
halts_at_end p t n m h = (ends_there p m.program m.state (clock_run p t n) h.in_phase, halts_there p m.program m.state (clock_run p t n) h.in_phase)

still_runs : (p : TimedProgram) (t : Words) (n : ℕ) (m : ClockMachine) → IsBehind p t n m → (IsEnded (clock_run p t n) → ⊥) → halt_at m.state.position ≡ halt.Running
still_runs p t n m h no_ = runs_at m.state.position (λ is. no_ ((halts_at_end p t n m h).0 is))

-- ---- runs that have ended

end_is : (x : Phase) → IsEnded x → (word : Option ℕ) × (words : Words) × (x ≡ ended word words)
end_is (starting t) h = absurd h
end_is (loading i t) h = absurd h
end_is (inside i f) h = absurd h
end_is (ended w t) h = (w, t, refl)

stays_ended : (p : TimedProgram) (t : Words) (edges : ℕ) (word : Option ℕ) (words : Words) → clock_run p t edges ≡ ended word words → (k : ℕ) → clock_run p t (edges + k) ≡ ended word words
stays_ended p t edges word words h zero = ap (clock_run p t) (let z : edges + 0 ≡ edges = omega arith in z) ∙ h
stays_ended p t edges word words h (suc k) =
    ap (clock_run p t) (let z : edges + suc k ≡ edges + k + 1 = omega arith in z) ∙ one_more p t (edges + k) ∙ ap (clock_step p) (stays_ended p t edges word words h k)

pub ends_machines : EndedRunsEndMachines
ends_machines p t edges word words h = record {
  at_end = λ n m is le.
      (let split : edges + (n - edges) ≡ n = omega (arith, le) in
      let there : clock_run p t n ≡ ended word words = ap (clock_run p t) (sym split) ∙ stays_ended p t edges word words h.end (n - edges) in
      let last = (subst (λ x. StandsAt p m.program x m.state) there is).in_phase in
      record { position = last.0; returned = last.1; words_are = last.2 });
  before = λ n m is lt. still_runs p t n m is (λ over. (let x = end_is (clock_run p t n) over in h.sooner n lt x.0 x.1 x.2));
}

same_number : (p : TimedProgram) (t : Words) (a b : ℕ) (v w : Option ℕ) (x y : Words) → RunEndsAfter p t a v x → RunEndsAfter p t b w y → a ≡ b
same_number p t a b v w x y h g = elim (cases_lt a b) [
  | inl less ↦ absurd (g.sooner a less v x h.end)
  | inr le ↦ elim (cases_lt b a) [
    | inl more ↦ absurd (h.sooner b more w y g.end)
    | inr ge ↦ omega (arith, le, ge)
  ]
]

pub ends_once : RunsEndOnce
ends_once p t a b v w x y h g =
    let same = same_number p t a b v w x y h g in
    let e : ended v x ≡ ended w y = sym h.end ∙ ap (clock_run p t) same ∙ g.end in
    (same, (let z : v ≡ w = cc in z), (let z : x ≡ y = cc in z))

-- ---- machines of pieces

pub machines_keep : ScheduledMachinesKeepRuns
machines_keep f choice kept pieces point returned cfg fine subscripts laid units timed rows times s t holds fits =
    let run = kept_runs f choice kept pieces point returned cfg fine subscripts laid units timed rows times s t holds fits in record {
      finite = λ n left trace way last e.
          (let x = run.finite n left trace way last e in
          let edges : ℕ = 1 + run_cycles cfg timed t (node_count f choice kept pieces point trace) in
          let after : RunEndsAfter (timed_program timed) t edges x.0 x.1 = record { end = x.3; sooner = λ m lt last behind over. x.4 m lt (subst IsEnded (sym over) tt) } in
          (x.0, x.1, x.2, after, ends_machines (timed_program timed) t edges x.0 x.1 after));
      endless = λ w n m h. still_runs (timed_program timed) t n m h (run.endless w n);
    }
