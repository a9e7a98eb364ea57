use Rattle.std.specs.Prelude.{◌==◌}
use Rattle.rtl_logic.specs.Making.{circuit}
use Rattle.datapath.specs.Cycles.{Cycle, Waited, bit}
use Rattle.datapath.proofs.Combining.{there_already}
use Rattle.circuit_context.proofs.Telling.{nothing_held}
use Rattle.circuit_context.proofs.Standing.{program_of}
use Rattle.circuit_context.proofs.Gates.{no_wait}
use Rattle.circuit_context.proofs.tests.has_waited.Goals as goal

pub returns-then-greatest_wait-le1 : goal.returns-then-greatest_wait-le1
returns-then-greatest_wait-le1 c = λ p names h begun.
    let d = circuit c.args.logic.now in
    let a = c.constant_bit.result in
    let k = c.args.cycles in
    let none = no_wait p c.greatest_wait.result (c.greatest_wait.ensures p (program_of p names c.args.of.now h).program) c.if-greatest_wait-le1.true in
    there_already p names d 1 a (λ (x : Cycle). bit (x.regs Waited == k)) begun (nothing_held p names d a Waited k none (c.constant_bit.ensures p names d))

pub returns : goal.returns
returns c = λ p names h begun. c.holds_number.ensures p names Waited (c.in_ok-register.ensures p names h) begun
