use Rattle.std.proofs.Common.{◌%◌, ◌<◌, ◌≤◌, sym, ap, ◌∙◌, subst, arith}
use Rattle.clock_machine.proofs.Turns.{at_time, before_time}
use Rattle.clock_machine.proofs.state.State.is_at.Goals as goal

pub returns-then-time-self : goal.returns-then-time-self
returns-then-time-self c = λ b f same some moment.
    let t = c.args.time in
    let phase = c.phase_of.ensures (subst (λ n. 0 < n) same some) ∙ ap (λ n. t % n) (sym same) in
    at_time b.interval t f.time c.phase_of.result c.args.self.now.moment.phase some (let z : t ≤ f.time = omega (arith, c.if-time-self.true, moment.time_is) in z) phase moment.phase_is

pub returns-else-time-self : goal.returns-else-time-self
returns-else-time-self c = λ b f same some moment. before_time b.interval c.args.time f.time (omega (arith, c.if-time-self.false, moment.time_is, c.ranges.time.fits))
