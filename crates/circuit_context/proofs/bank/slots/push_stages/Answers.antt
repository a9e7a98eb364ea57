use Rattle.std.proofs.Common.{◌+◌, refl, arith}
use Rattle.circuit_context.specs.declared.wanted.role.Role.TheVariants as role
use Rattle.circuit_context.proofs.BankLemmas.Adding.{adds_numbered}
use Rattle.circuit_context.proofs.bank.slots.push_stages.Goals as goal

pub loop-before-preserved : goal.loop-before-preserved
loop-before-preserved c = λ p.
    let k = c.loop-before.before in
    adds_numbered p (λ n. role.Passed n) 1 k (k + 1) c.args.slots.now.items c.loop-before.slots.items c.push.new.slots.items (omega arith) (c.loop-before.invariant p) (c.in_ok-push.ensures p refl)
