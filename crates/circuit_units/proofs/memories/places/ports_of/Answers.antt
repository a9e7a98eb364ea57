use Rattle.std.proofs.Common.{◌∙◌, arith}
use Rattle.circuit_units.proofs.MemoriesLemmas.Steps.{count_at}
use Rattle.circuit_units.proofs.memories.places.ports_of.Goals as goal

pub index-requires : goal.index-requires
index-requires c = omega (arith, c.requires, c.args.of.now.numbered.counts)

pub returns : goal.returns
returns c = λ p names context.
    c.index.ensures
    ∙ count_at p c.args.of.now.ports.counts.items c.args.array.0 c.index.result.now context.ports_.counts (omega (arith, c.requires, c.args.of.now.numbered.counts))
