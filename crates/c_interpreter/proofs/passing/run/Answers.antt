use Rattle.std.proofs.Common.{ap, ◌+◌, arith}
use Rattle.c_machine.specs.State.Reading.{Reading}
use Rattle.c_moves.specs.Machines.{configuration_of}
use Rattle.c_machine.proofs.Keeping.{keeps-same, keeps-both}
use Rattle.c_interpreter.proofs.passing.run.Goals as goal

pub returns-in_err-pass-clause-follows : goal.returns-in_err-pass-clause-follows
returns-in_err-pass-clause-follows c =
    keeps-both (configuration_of c.args.machine.now) (configuration_of c.loop-alloc.machine) (configuration_of c.pass.new.machine) c.loop-alloc.invariant.follows c.pass.ensures.follows

pub loop-alloc-preserved : goal.loop-alloc-preserved
loop-alloc-preserved c =
    let total = ap (λ (r : Reading). r.left + r.passed) c.run_on-in-loop-alloc.ensures.meter in
    let same = ap (λ (r : Reading). r.passed) c.run_on-in-loop-alloc.ensures.meter in
    record {
      total = omega (arith, total, c.pass.ensures.total, c.loop-alloc.invariant.total);
      more = omega (arith, same, c.pass.ensures.more, c.loop-alloc.invariant.more);
      follows = keeps-both (configuration_of c.args.machine.now) (configuration_of c.pass.new.machine) (configuration_of c.run_on-in-loop-alloc.new.machine)
          (keeps-both (configuration_of c.args.machine.now) (configuration_of c.loop-alloc.machine) (configuration_of c.pass.new.machine) c.loop-alloc.invariant.follows c.pass.ensures.follows)
          (keeps-same (configuration_of c.pass.new.machine) (configuration_of c.run_on-in-loop-alloc.new.machine) c.run_on-in-loop-alloc.ensures.meter c.run_on-in-loop-alloc.ensures.rest);
      sound = c.run_on-in-loop-alloc.ensures.sound;
      shaped = c.run_on-in-loop-alloc.ensures.shaped;
      resting = c.in_ok-run_on-2.ensures.done;
    }

pub returns-in_err-run_on-2-clause-follows : goal.returns-in_err-run_on-2-clause-follows
returns-in_err-run_on-2-clause-follows c =
    keeps-both (configuration_of c.args.machine.now) (configuration_of c.pass.new.machine) (configuration_of c.run_on-in-loop-alloc.new.machine)
    (keeps-both (configuration_of c.args.machine.now) (configuration_of c.loop-alloc.machine) (configuration_of c.pass.new.machine) c.loop-alloc.invariant.follows c.pass.ensures.follows)
    (keeps-same (configuration_of c.pass.new.machine) (configuration_of c.run_on-in-loop-alloc.new.machine) c.run_on-in-loop-alloc.ensures.meter c.run_on-in-loop-alloc.ensures.rest)
