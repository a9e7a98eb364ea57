use Rattle.std.proofs.Common.{◌∙◌, ap, arith}
use Rattle.flat_programs.specs.declared.machine.machine.SeqMachine.{SeqMachine}
use Rattle.stage_runs.proofs.Ending.{further}
use Rattle.stage_runs.proofs.running.run_to_end.Goals as goal

pub returns-then-ne-clause-passes : goal.returns-then-ne-clause-passes
returns-then-ne-clause-passes c =
    further c.loop-steps.steps c.args.machine.now c.loop-steps.machine c.pass_counted.new.machine c.halt_of.new.machine c.args.meter.now.counts c.loop-steps.meter.counts c.pass_counted.new.meter.counts c.loop-steps.invariant.0
    c.halt_of.ensures.same c.loop-steps.invariant.2 c.in_ok-pass_counted.ensures.passes

pub loop-steps-preserved : goal.loop-steps-preserved
loop-steps-preserved c = (
  ap (λ (m : SeqMachine). m.cfg.now) c.halt_of.ensures.same ∙ (c.in_ok-pass_counted.ensures.program ∙ c.loop-steps.invariant.0),
  omega (arith, c.loop-steps.invariant.1, c.in_ok-pass_counted.ensures.left),
  further c.loop-steps.steps c.args.machine.now c.loop-steps.machine c.pass_counted.new.machine c.halt_of.new.machine c.args.meter.now.counts c.loop-steps.meter.counts c.pass_counted.new.meter.counts c.loop-steps.invariant.0
      c.halt_of.ensures.same c.loop-steps.invariant.2 c.in_ok-pass_counted.ensures.passes,
)
