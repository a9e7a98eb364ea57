use Rattle.std.proofs.Common.{◌+◌, refl, ◌∙◌, arith}
use Rattle.clock_machine.proofs.Runs.{is_over, is_unended, goes_on_first, goes_on_more}
use Rattle.clock_machine.proofs.machine.ClockMachine.steps_to_end.Goals as goal

pub loop-steps-init : goal.loop-steps-init
loop-steps-init c = record { program = refl; run = λ p t h. (h, goes_on_first p t) }

pub loop-steps-preserved : goal.loop-steps-preserved
loop-steps-preserved c =
    let n = c.loop-steps.steps in
    let m = c.go_on.new.self in record {
      program = c.go_on.ensures.program ∙ c.loop-steps.invariant.program;
      run = λ p t h.
          (let so_far = c.loop-steps.invariant.run p t h in
          let now_ = c.go_on.ensures.run p t n so_far.0 in
          (now_, goes_on_more p t n so_far.1 (is_unended p m.program t (n + 1) m.state now_ c.in_default.not-Ended)));
    }

pub returns-in-Ended-clause-end : goal.returns-in-Ended-clause-end
returns-in-Ended-clause-end c = λ p t h.
    (let n = c.loop-steps.steps in
    let m = c.go_on.new.self in
    let so_far = c.loop-steps.invariant.run p t h in
    let now_ = c.go_on.ensures.run p t n so_far.0 in
    (now_, record { end = is_over p m.program t (n + 1) m.state now_ c.in-Ended.is; sooner = λ k lt. so_far.1 k (omega (arith, lt)) }))

pub returns-clause-none : goal.returns-clause-none
returns-clause-none c = λ p t h m le. (c.loop-steps.invariant.run p t h).1 m (omega (arith, le, c.loop-steps-test.false))
