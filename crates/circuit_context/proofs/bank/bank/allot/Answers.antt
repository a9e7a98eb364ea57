use Rattle.std.proofs.Common.{◌<◌, ◌^◌, sym, ap, subst, arith}
use Rattle.rtl_logic.specs.Making.{circuit}
use Rattle.datapath.specs.Plans.{Plan, initial_cycles}
use Rattle.circuit_context.specs.Bank.Slots.{AreRegistered}
use Rattle.circuit_context.proofs.BankLemmas.Adding.{allotted}
use Rattle.circuit_context.proofs.bank.bank.allot.Goals as goal

pub returns : goal.returns
returns c = λ p e counts begun.
    let d = circuit c.args.logic.now in
    let f = circuit c.register_all.new.logic in
    let small : initial_cycles p < 2 ^ 64 = omega (arith, c.requires.start p (sym (ap (λ (q : Plan). q.arrays) e)) (sym (ap (λ (q : Plan). q.kept) e))) in
    allotted p d f c.in_ok-slots.slots.items (record { roles = c.in_ok-roles.roles; gates = c.lines_for-lines.result.gates; stages = c.lines_for-lines.result.stages }) begun (c.in_ok-slots.ensures p e counts small)
    (subst (λ l. AreRegistered d f l c.in_ok-roles.roles.keys) c.deref.ensures.value c.in_ok-roles.ensures)
