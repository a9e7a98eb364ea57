use Rattle.std.proofs.Common.{refl, arith}
use Rattle.rtl_core.specs.declared.design.Atom.TheVariants as atom
use Rattle.rtl_core.specs.Interface.{address_of, data_of}
use Rattle.rtl_core.specs.Valid.{IsBetween}
use Rattle.rtl_logic.specs.Making.{circuit}
use Rattle.datapath.specs.Cycles.{Cycle}
use Rattle.circuit_units.proofs.MemoriesLemmas.Chosen.{pin_carries, pin_wide}
use Rattle.circuit_units.proofs.MemoriesLemmas.Outer.{resized_carries, host_outside}
use Rattle.circuit_units.proofs.memories.outside.host_access.Goals as goal

pub returns : goal.returns
returns c = λ p names context begun place host.
    let d = circuit c.args.logic.now in
    let e = circuit c.host_writes.new.logic in
    let f = circuit c.resized.new.self in
    let g = circuit c.resized-2.new.self in
    let bits = c.args.place.bits in
    let depth_ = c.args.place.depth in
    let small : IsBetween 1 128 bits = (place.wide.0, omega (arith, place.wide.1)) in
    let low : IsBetween 1 128 depth_ = (place.deep.0, omega (arith, place.deep.1)) in
    let enable = c.in_ok-enable.ensures p names context begun place in
    let address = pin_carries p names e 5 16 (pin_wide p names e 5 16 enable.begun refl) in
    let addr = resized_carries p names e f 16 depth_ (atom.Input 5) c.in_ok-addr.addr (λ (x : Cycle). address_of x.pins) enable.begun address
    (c.in_ok-addr.ensures 16 enable.begun.sound address.fits (omega arith, omega arith) low) in
    let data_ = pin_carries p names f 6 64 (pin_wide p names f 6 64 addr.begun refl) in
    let value = resized_carries p names f g 64 bits (atom.Input 6) c.in_ok-value.value (λ (x : Cycle). data_of x.pins) addr.begun data_
    (c.in_ok-value.ensures 64 addr.begun.sound data_.fits (omega arith, omega arith) small) in
    host_outside p names d e f g c.args.place.array.0 bits depth_ _ host place.bits place.depth_ enable addr value
