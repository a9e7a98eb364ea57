use Rattle.circuit_units.specs.Memories.Places.{reading_at}
use Rattle.circuit_units.proofs.MemoriesLemmas.Steps.{mapped_more, mapped_all}
use Rattle.circuit_units.proofs.memories.words.readings.Goals as goal

pub loop-word-init : goal.loop-word-init
loop-word-init c = c.in_ok-reads.ensures.items

pub loop-word-preserved : goal.loop-word-preserved
loop-word-preserved c =
    mapped_more (reading_at c.args.when) c.args.words.now c.loop-word.word-index _ c.loop-word.reads.items c.push.new.self.items c.loop-word-test.true c.loop-word.invariant c.in_ok-push.ensures.items

pub returns : goal.returns
returns c = mapped_all (reading_at c.args.when) c.args.words.now c.loop-word.word-index c.loop-word.reads.items c.loop-word-test.false c.loop-word.invariant
