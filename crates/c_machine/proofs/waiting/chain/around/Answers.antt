use Rattle.std.proofs.Common.{◌∙◌, sym, ap}
use Rattle.c_machine.specs.Waiting.Chains.{around}
use Rattle.c_machine.proofs.WaitingLemmas.OperatorChains.{around_more}
use Rattle.c_machine.proofs.waiting.chain.around.Goals as goal

pub loop-operator-preserved : goal.loop-operator-preserved
loop-operator-preserved c =
    ap (around c.pop.new.self.items) c.binary_kind-whole.ensures
    ∙ sym (around_more c.pop.new.self.items c.in-Some.operator c.loop-operator.whole)
    ∙ ap (λ os. around os c.loop-operator.whole) (sym c.in-Some.ensures.items)
    ∙ c.loop-operator.invariant
