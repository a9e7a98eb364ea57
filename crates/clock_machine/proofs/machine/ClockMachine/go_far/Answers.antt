use Rattle.std.proofs.Common.{◌≡◌, ◌+◌, ◌-◌, refl, sym, ◌∙◌, subst, arith}
use Rattle.ir_core.specs.Halts.{HasHalted}
use Rattle.clock_machine.specs.declared.machine.ClockMachine.{ClockMachine}
use Rattle.clock_machine.specs.Halts.{halt_at}
use Rattle.clock_machine.specs.Runs.{IsBehind}
use Rattle.clock_machine.proofs.Runs.{ends_so}
use Rattle.clock_machine.proofs.machine.ClockMachine.go_far.Goals as goal

pub loop-left-init : goal.loop-left-init
loop-left-init c = record {
  stays = λ h. refl;
  none = λ e. refl;
  program = refl;
  within = omega arith;
  run = λ p t n h. subst (λ k. IsBehind p t k c.args.self.now) (let z : n ≡ n + (c.args.steps - c.args.steps) = omega arith in z) h;
}

pub loop-left-preserved : goal.loop-left-preserved
loop-left-preserved c =
    let inv = c.loop-left.invariant in
    let left = c.loop-left.left in
    let steps = c.args.steps in record {
      stays = λ h. (let same = inv.stays h in c.go_on.ensures.stays (subst (λ (m : ClockMachine). HasHalted (halt_at m.state.position)) (sym same) h) ∙ same);
      none = λ e. absurd (omega (arith, e, inv.within, c.loop-left-test.true));
      program = c.go_on.ensures.program ∙ inv.program;
      within = omega (arith, inv.within);
      run = λ p t n h. subst (λ k. IsBehind p t k c.go_on.new.self) (let z : n + (steps - left) + 1 ≡ n + (steps - (left - 1)) = omega (arith, inv.within, c.loop-left-test.true) in z) (c.go_on.ensures.run p t (n + (steps - left)) (inv.run p t n h));
    }

pub returns-in-Ended-clause-run : goal.returns-in-Ended-clause-run
returns-in-Ended-clause-run c = λ p t n h.
    let inv = c.loop-left.invariant in
    let m = c.loop-left.self in
    let left = c.loop-left.left in
    let steps = c.args.steps in
    ends_so p m.program t (n + (steps - left)) left (n + steps) m.state (inv.run p t n h) c.in-Ended.is (omega (arith, inv.within))

pub returns-clause-run : goal.returns-clause-run
returns-clause-run c = λ p t n h.
    (let inv = c.loop-left.invariant in
    subst (λ k. IsBehind p t k c.loop-left.self) (let z : n + (c.args.steps - c.loop-left.left) ≡ n + c.args.steps = omega (arith, c.loop-left-test.false) in z) (inv.run p t n h))
