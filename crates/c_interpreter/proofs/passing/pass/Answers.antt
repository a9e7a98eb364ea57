use Rattle.c_machine.specs.Waiting.Shown.{step_of}
use Rattle.c_moves.specs.Machines.{configuration_of}
use Rattle.c_machine.proofs.Keeping.{keeps-counted}
use Rattle.c_interpreter.proofs.passing.pass.Goals as goal

pub returns-clause-follows : goal.returns-clause-follows
returns-clause-follows c =
    keeps-counted c.count.result c.args.spot.kind c.args.spot.at (step_of c.args.step) (configuration_of c.args.machine.now) (configuration_of c.count.new.machine)
    c.requires.before c.count.ensures.ok c.count.ensures.passed c.count.ensures.counts c.count.ensures.err
