use Rattle.std.proofs.Common.{◌+◌, arith, subst, sym}
use Rattle.ir_core.specs.Halts.{HasHalted}
use Rattle.flat_programs.specs.declared.machine.machine.SeqMachine.{SeqMachine}
use Rattle.flat_programs.proofs.MachineLemmas.Nearing.{over_later, over_now}
use Rattle.flat_programs.proofs.machine.machine.SeqMachineMachineUntimed.run.Goals as goal
use Rattle.flat_programs.proofs.machine.machine.SeqMachineMachineUntimed.run.Goals.{then-steps-gt0+then-is_running, else-steps-gt0, else-steps-gt0-via-then-steps-gt0+else-is_running, else-steps-gt0-via-else-steps-gt0}

pub returns-clause-halts : goal.returns-clause-halts
returns-clause-halts c = λ whole most within few.
    let cfg = c.args.self.now.cfg.now in
    let s = c.args.self.now.state in
    elim c.if-steps-gt0.branch [
      | then-steps-gt0+then-is_running w ↦
          subst (λ (m : SeqMachine). HasHalted m.state.halt) (sym w.self-is)
          (over_now w.go_on.new.self.cfg.now w.go_on.new.self.state (w.go_on.ensures.nears whole 0 (over_later most (c.args.steps + 0) cfg s (omega (arith, few)) within)))
      | else-steps-gt0 w ↦ subst (λ (m : SeqMachine). HasHalted m.state.halt) (sym w.self-is) (elim w.else-steps-gt0.branch [
        | else-steps-gt0-via-then-steps-gt0+else-is_running v ↦ v.is_running.ensures.halted v.if-is_running.false
        | else-steps-gt0-via-else-steps-gt0 v ↦ over_now cfg s (over_later most 0 cfg s (let none = v.if-steps-gt0.false in omega (arith, few, none)) within)
      ])
    ]
