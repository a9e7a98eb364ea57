use Rattle.std.proofs.Common.{refl, arith}
use Rattle.circuit_context.specs.declared.wanted.role.Role.TheVariants as role
use Rattle.circuit_context.proofs.BankLemmas.Adding.{adds_numbered}
use Rattle.circuit_context.proofs.bank.slots.push_gates.Goals as goal

pub loop-tests-preserved : goal.loop-tests-preserved
loop-tests-preserved c = λ p.
    let k = c.loop-tests.tests in
    adds_numbered p (λ n. role.Gate n) 0 k k c.args.slots.now.items c.loop-tests.slots.items c.push.new.slots.items (omega arith) (c.loop-tests.invariant p) (c.in_ok-push.ensures p refl)
