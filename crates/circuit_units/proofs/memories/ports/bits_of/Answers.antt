use Rattle.rtl_logic.specs.declared.select.Choice.{Choice}
use Rattle.circuit_units.proofs.MemoriesLemmas.Steps.{mapped_more, mapped_all}
use Rattle.circuit_units.proofs.memories.ports.bits_of.Goals as goal

pub loop-choice-init : goal.loop-choice-init
loop-choice-init c = c.in_ok-bits.ensures.items

pub loop-choice-preserved : goal.loop-choice-preserved
loop-choice-preserved c =
    mapped_more (λ (x : Choice). x.when) c.args.choices.now c.loop-choice.choice-index _ c.loop-choice.bits.items c.push.new.self.items c.loop-choice-test.true c.loop-choice.invariant c.in_ok-push.ensures.items

pub returns : goal.returns
returns c = mapped_all (λ (x : Choice). x.when) c.args.choices.now c.loop-choice.choice-index c.loop-choice.bits.items c.loop-choice-test.false c.loop-choice.invariant
