use Rattle.std.proofs.Common.{◌≡◌, ◌∙◌, ◌<◌, ◌≤◌, ◌^◌, length, refl, ap, sym, subst, arith}
use Rattle.std.specs.List.{All}
use Rattle.hls_base.specs.ArrayAddress.{address_bits}
use Rattle.rtl_core.specs.Valid.{IsBetween}
use Rattle.rtl_logic.specs.Making.{circuit}
use Rattle.datapath.specs.Plans.{Array, array_of}
use Rattle.datapath.specs.Cycles.{Initial}
use Rattle.circuit_units.specs.Memories.Places.{AreWordsOf}
use Rattle.circuit_units.proofs.MemoriesLemmas.Chosen.{holds_tells}
use Rattle.circuit_units.proofs.MemoriesLemmas.Times.{time_counted}
use Rattle.circuit_units.proofs.MemoriesLemmas.Outer.{array_there, bank_register, first_outside}
use Rattle.circuit_units.proofs.memories.outside.first_access.Goals as goal

pub returns : goal.returns
returns c = λ p names context begun place at host first.
    let d = circuit c.args.logic.now in
    let e = circuit c.low_time.new.logic in
    let f = circuit c.table_word.new.logic in
    let a = c.args.place.array.0 in
    let bits = c.args.place.bits in
    let depth_ = c.args.place.depth in
    let low : IsBetween 1 128 depth_ = (place.deep.0, omega (arith, place.deep.1)) in
    let enable = holds_tells p names d c.in_ok-enable.enable Initial begun refl (bank_register p names c.args.of.now c.in_ok-enable.enable Initial context c.in_ok-enable.ensures) in
    let there = array_there p a (array_of c.args.memory.now) at in
    let deep : 1 ≤ address_bits c.args.memory.now.dims.items = subst (λ (x : Array). 1 ≤ address_bits x.dims) there (subst (λ k. 1 ≤ k) place.depth_ place.deep.0) in
    let counted = time_counted p a (array_of c.args.memory.now) c.args.elements.now at (ap (λ (x : Array). x.first) (sym there) ∙ first) deep in
    let addr = c.in_ok-addr.ensures p names context begun counted low in
    let words : AreWordsOf p a c.args.elements.now c.items.result.now = subst (AreWordsOf p a c.args.elements.now) (sym c.items.ensures) (c.in_ok-words.ensures p place at) in
    let count : length c.items.result.now ≡ 2 ^ depth_ = words.count ∙ ap (λ n. 2 ^ n) (sym place.depth_) in
    let fit : All (λ w. w < 2 ^ bits) c.items.result.now = subst (λ n. All (λ w. w < 2 ^ n) c.items.result.now) (sym place.bits) words.fit in
    first_outside p names d e f a bits depth_ c.args.elements.now c.items.result.now _ host first place.bits place.depth_ enable addr words
    (c.in_ok-value.ensures depth_ addr.begun.sound place.wide addr.carries.fits count fit)
