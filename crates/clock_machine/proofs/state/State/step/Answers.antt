use Rattle.std.proofs.Common.{sym, subst}
use Rattle.clock_machine.specs.Standing.{StandsAt}
use Rattle.clock_machine.proofs.Entering.{from_start, from_loading, from_inside, from_end}
use Rattle.clock_machine.proofs.state.State.step.Goals as goal

pub returns-in-Start : goal.returns-in-Start
returns-in-Start c = λ p phase h. from_start p c.args.program.now phase c.args.self.now c.enter.new.self h c.in-Start.is (λ st. c.enter.ensures p st)

pub returns-in-Loading : goal.returns-in-Loading
returns-in-Loading c = λ p phase h. from_loading p c.args.program.now phase c.in-Loading.node c.args.self.now c.load_loop.new.self h c.in-Loading.is (λ st. c.load_loop.ensures p st c.in-Loading.is)

pub returns-in-Inside : goal.returns-in-Inside
returns-in-Inside c = λ p phase h. from_inside p c.args.program.now phase c.in-Inside.node c.args.self.now c.cycle.new.self h c.in-Inside.is (λ f st in_. c.cycle.ensures p f st c.in-Inside.is in_)

pub returns-in-Ended : goal.returns-in-Ended
returns-in-Ended c = λ p phase h. subst (λ x. StandsAt p c.args.program.now x c.args.self.now) (sym (from_end p c.args.program.now phase c.args.self.now h c.in-Ended.is)) h
