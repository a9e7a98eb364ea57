use Rattle.std.proofs.Common.{◌≡◌, ◌+◌, ◌%◌, sym, ◌∙◌, arith}
use Rattle.std.proofs.lemmas.Nat.{mod_below}
use Rattle.clock_machine.proofs.Ticks.{goes_up, goes_round}
use Rattle.clock_machine.proofs.state.State.pass.Goals as goal
use Rattle.clock_machine.proofs.state.State.pass.Goals.{then-phase-interval, else-phase-interval}

pub returns-clause-moment : goal.returns-clause-moment
returns-clause-moment c = λ b f same some moment.
    let small = mod_below f.time b.interval some in
    let plus : c.saturating_add-phase.result ≡ f.time % b.interval + 1 = omega (arith, c.saturating_add-phase.ensures, moment.phase_is, small, same, c.ranges.interval.fits) in
    record {
      phase_is = elim c.if-phase-interval.branch [
        | then-phase-interval w ↦ w.self-is ∙ plus ∙ sym (goes_up f.time b.interval some (omega (arith, w.if-phase-interval.true, plus, same)))
        | else-phase-interval w ↦ w.self-is ∙ sym (goes_round f.time b.interval some (omega (arith, w.if-phase-interval.false, plus, same)))
      ];
      time_is = omega (arith, c.saturating_add-self.ensures, moment.time_is);
    }
