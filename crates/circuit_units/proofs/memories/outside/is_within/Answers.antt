use Rattle.std.proofs.Common.{◌<◌, ◌-◌, refl, arith}
use Rattle.std.proofs.lemmas.Nat.{pow_pos}
use Rattle.std.proofs.lemmas.Result.{IfOk-weaker}
use Rattle.rtl_core.specs.Valid.{IsBetween}
use Rattle.rtl_logic.specs.Making.{circuit}
use Rattle.datapath.proofs.Combining.{begun_after}
use Rattle.circuit_units.proofs.MemoriesLemmas.Chosen.{pin_carries, pin_wide, number_carries}
use Rattle.circuit_units.proofs.MemoriesLemmas.Outer.{within_tells, all_within_tells}
use Rattle.circuit_units.proofs.memories.outside.is_within.Goals as goal

pub returns-then-depth-ge16 : goal.returns-then-depth-ge16
returns-then-depth-ge16 c = λ p names begun between.
    let d = circuit c.args.logic.now in
    all_within_tells p names d c.args.depth c.constant.result begun (pin_wide p names d 5 16 begun refl) c.if-depth-ge16.true between.1 c.constant.ensures

pub returns : goal.returns
returns c = λ p names begun between.
    let d = circuit c.args.logic.now in
    let e = circuit c.part.new.self in
    let k = c.args.depth in
    let small : k < 16 = omega (arith, c.if-depth-ge16.false) in
    let pin = pin_wide p names d 5 16 begun refl in
    let address = pin_carries p names d 5 16 pin in
    let made = c.in_ok-high.ensures 16 begun.sound address.fits (omega arith) (omega (arith, small)) (omega arith) in
    let begun_e = begun_after p names d e begun made.appends made.sound in
    let bits : IsBetween 1 128 (16 - k) = (omega (arith, small), omega (arith, small)) in
    let none = number_carries p names e (16 - k) 0 c.constant-2.result bits (pow_pos (16 - k)) c.constant-2.ensures in
    IfOk-weaker c.equal.result _ _ (λ a equal. within_tells p names d e (circuit c.equal.new.self) k c.in_ok-high.high c.constant-2.result a begun pin small made c.constant-2.ensures equal)
    (c.equal.ensures (16 - k) made.sound made.shows.fits none.fits)
