use Rattle.std.proofs.Common.{slice_index, sym, ap, arith}
use Rattle.circuit_context.specs.declared.wanted.role.Role.TheVariants as role
use Rattle.circuit_context.proofs.BankLemmas.Adding.{adds_numbered}
use Rattle.circuit_context.proofs.bank.slots.push_values.Goals as goal

pub loop-number-preserved : goal.loop-number-preserved
loop-number-preserved c = λ p widths.
    let k = c.loop-number.number in
    adds_numbered p (λ n. role.Value n) 0 k k c.args.slots.now.items c.loop-number.slots.items c.push.new.slots.items (omega arith) (c.loop-number.invariant p widths)
    (c.in_ok-push.ensures p (ap (λ l. slice_index l k) (sym widths)))
