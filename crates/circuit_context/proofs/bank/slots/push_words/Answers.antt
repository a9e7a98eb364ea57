use Rattle.std.proofs.Common.{arith}
use Rattle.circuit_context.specs.declared.wanted.role.Role.TheVariants as role
use Rattle.circuit_context.proofs.BankLemmas.Adding.{adds_numbered}
use Rattle.circuit_context.proofs.bank.slots.push_words.Goals as goal

pub loop-port-preserved : goal.loop-port-preserved
loop-port-preserved c = λ p bits.
    let k = c.loop-port.port in
    adds_numbered p (λ n. role.Word c.args.array n) 0 k k c.args.slots.now.items c.loop-port.slots.items c.push.new.slots.items (omega arith) (c.loop-port.invariant p bits) (c.in_ok-push.ensures p bits)
