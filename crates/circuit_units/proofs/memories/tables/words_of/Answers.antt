use Rattle.std.proofs.Common.{◌≤◌, ◌<◌, subst, arith}
use Rattle.ir_core.specs.AddressWords.{AreShort}
use Rattle.hls_base.specs.ArrayAddress.{address_bits}
use Rattle.datapath.specs.Plans.{Array, array_of}
use Rattle.circuit_units.proofs.MemoriesLemmas.Outer.{array_there, words_placed}
use Rattle.circuit_units.proofs.MemoriesLemmas.Steps.{both_ok}
use Rattle.circuit_units.proofs.memories.tables.words_of.Goals as goal

pub returns : goal.returns
returns c = λ p place at.
    let m = c.args.memory.now in
    let there = array_there p c.args.place.array.0 (array_of m) at in
    let few : c.args.place.depth < 64 = omega (arith, place.deep.1) in
    let short : AreShort m.dims.items = subst (λ (x : Array). AreShort x.dims) there place.short in
    let low : address_bits m.dims.items ≤ c.args.place.depth = subst (λ (x : Array). address_bits x.dims ≤ c.args.place.depth) there (omega (arith, place.depth_)) in
    both_ok c.words_by_address.result _ _ _ (λ words count are. words_placed p c.args.place m c.args.elements.now words place at c.requires count are)
    (c.words_by_address.ensures.count few) (c.words_by_address.ensures.words few short low)
