use Rattle.std.proofs.Common.{sym, subst}
use Rattle.ir_core.specs.FirstContents.{first_words}
use Rattle.clock_ir.specs.ClockRuns.{timed_program}
use Rattle.clock_machine.specs.Standing.{StandsAt}
use Rattle.clock_machine.proofs.Orderly.{steady_of}
use Rattle.clock_machine.proofs.Runs.{begins_run}
use Rattle.clock_machine.proofs.machine.ClockMachine.new.Goals as goal

pub returns-clause-first : goal.returns-clause-first
returns-clause-first c = λ orderly whole named.
    let cfg = c.args.cfg.now in
    let p = timed_program cfg in
    let t = first_words cfg.frame c.args.inputs.now in
    let begins = c.in_ok-state.ensures.begins named in
    subst (λ x. StandsAt p c.in_ok-program.program x c.in_ok-state.state) (sym (begins_run p t))
    (record { of_program = c.in_ok-state.ensures.state (c.in_ok-program.ensures.program orderly) whole (steady_of cfg orderly); in_phase = (begins.position, begins.words) })
