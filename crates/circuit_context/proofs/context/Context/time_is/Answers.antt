use Rattle.std.proofs.Common.{◌≡◌, ◌≤◌, ◌∙◌, false, sym, arith}
use Rattle.std.specs.Prelude.{◌==◌, nat_lt}
use Rattle.std.proofs.lemmas.Bool.{ltb-false}
use Rattle.rtl_logic.specs.Making.{circuit}
use Rattle.datapath.specs.Cycles.{Cycle, Time, bit}
use Rattle.datapath.specs.Control.{greatest_time}
use Rattle.datapath.proofs.Combining.{there_already}
use Rattle.circuit_context.proofs.Telling.{nothing_held}
use Rattle.circuit_context.proofs.Standing.{program_of, no_time}
use Rattle.circuit_context.proofs.context.Context.time_is.Goals as goal

pub returns-in_ok-register : goal.returns-in_ok-register
returns-in_ok-register c = λ p names h begun. c.holds_number.ensures p names Time (c.in_ok-register.ensures p names h) begun

pub returns-else-counts_times : goal.returns-else-counts_times
returns-else-counts_times c = λ p names h begun.
    let d = circuit c.args.logic.now in
    let a = c.constant_bit.result in
    let k = c.args.time in
    let test : nat_lt 0 (greatest_time p) ≡ false = sym (c.counts_times.ensures p (program_of p names c.args.self.now h)) ∙ c.if-counts_times.false in
    let none : greatest_time p ≤ 0 = ltb-false 0 (greatest_time p) test in
    there_already p names d 1 a (λ (x : Cycle). bit (x.regs Time == k)) begun (nothing_held p names d a Time k (no_time p (omega (arith, none))) (c.constant_bit.ensures p names d))
