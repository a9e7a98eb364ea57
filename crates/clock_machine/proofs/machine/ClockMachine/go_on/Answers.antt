use Rattle.std.proofs.Common.{◌+◌, refl}
use Rattle.clock_ir.specs.ClockRuns.{clock_run}
use Rattle.clock_machine.proofs.Runs.{steps_on, ends_so}
use Rattle.clock_machine.proofs.machine.ClockMachine.go_on.Goals as goal

pub returns-in-Ended-clause-run : goal.returns-in-Ended-clause-run
returns-in-Ended-clause-run c = λ p t n h. ends_so p c.args.self.now.program t n 1 (n + 1) c.args.self.now.state h c.in-Ended.is refl

pub returns-clause-run : goal.returns-clause-run
returns-clause-run c = λ p t n h. steps_on p c.args.self.now.program t n (n + 1) c.step.new.self refl (c.step.ensures p (clock_run p t n) h)
