use Rattle.std.proofs.Common.{◌≡◌, ◌∙◌, ap, sym, subst, arith}
use Rattle.hls_base.specs.ArrayAddress.{address_bits}
use Rattle.ir_core.specs.AddressWords.{AreShort}
use Rattle.datapath.specs.Plans.{Array, array_of}
use Rattle.program_validity.proofs.Parts.{short_address}
use Rattle.program_validity.proofs.Memories.{word_narrow, deep_address, short_dims}
use Rattle.circuit_units.proofs.MemoriesLemmas.Outer.{array_there, array_within}
use Rattle.circuit_units.proofs.memories.places.place_of.Goals as goal

pub returns-clause-place : goal.returns-clause-place
returns-clause-place c = λ p at.
    let m = c.args.memory.now in
    let a = c.args.array.0 in
    let there = array_there p a (array_of m) at in
    let deep = deep_address m c.requires in
    let short = short_address m c.requires in
    let same : c.depth_log.result ≡ address_bits m.dims.items = omega (arith, c.depth_log.ensures, short) in
    record {
      there = array_within p a (array_of m) at;
      bits = ap (λ (x : Array). x.bits) (sym there);
      depth_ = same ∙ ap (λ (x : Array). address_bits x.dims) (sym there);
      wide = word_narrow m c.requires;
      deep = (omega (arith, same, deep), omega (arith, same, short));
      short = subst (λ (x : Array). AreShort x.dims) (sym there) (short_dims m c.requires);
    }
