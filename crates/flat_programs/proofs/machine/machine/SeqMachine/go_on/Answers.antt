use Rattle.std.proofs.Common.{◌+◌, sym, subst, arith}
use Rattle.flat_programs.specs.Machine.Rest.{IsWhole, rest}
use Rattle.flat_programs.proofs.MachineLemmas.Going.{goes_further, stands, one_step}
use Rattle.flat_programs.proofs.MachineLemmas.Nearing.{over_later, halted_is_over}
use Rattle.flat_programs.proofs.machine.machine.SeqMachine.go_on.Goals as goal

pub loop-preserved : goal.loop-preserved
loop-preserved c =
    let cfg = c.loop.self.cfg.now in (
      c.loop.invariant.0,
      λ whole.
          goes_further c.loop.counter 1 (c.loop.counter + 1) (rest c.args.self.now.cfg.now c.args.self.now.state) (rest cfg c.loop.self.state) (rest cfg c.advance.new.self) (omega arith)
          (c.loop.invariant.1 whole) (one_step _ _ _ (c.advance.ensures.passes (subst IsWhole (sym c.loop.invariant.0) whole))),
      λ whole most within.
          c.advance.ensures.nears (subst IsWhole (sym c.loop.invariant.0) whole) most
          (c.loop.invariant.2 whole (most + 1) (over_later (c.loop.counter + 1 + most) (c.loop.counter + (most + 1)) c.args.self.now.cfg.now c.args.self.now.state (omega arith) within)),
    )

pub returns-then-not-is_running-clause-goes_on : goal.returns-then-not-is_running-clause-goes_on
returns-then-not-is_running-clause-goes_on c = λ whole.
    let last = rest c.loop.self.cfg.now c.loop.self.state in
    goes_further c.loop.counter 0 c.args.steps (rest c.args.self.now.cfg.now c.args.self.now.state) last last (omega arith) (c.loop.invariant.1 whole) (stands last)

pub returns-then-not-is_running-clause-nears : goal.returns-then-not-is_running-clause-nears
returns-then-not-is_running-clause-nears c = λ whole most within. halted_is_over most c.loop.self.cfg.now c.loop.self.state (c.is_running.ensures.halted c.if-not-is_running.true)
