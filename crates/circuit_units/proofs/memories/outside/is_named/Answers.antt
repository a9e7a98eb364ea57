use Rattle.std.proofs.Common.{refl, arith}
use Rattle.std.proofs.lemmas.Result.{IfOk-weaker}
use Rattle.rtl_core.specs.declared.design.Atom.TheVariants as atom
use Rattle.rtl_core.specs.Interface.{select_of}
use Rattle.rtl_logic.specs.Making.{circuit}
use Rattle.datapath.specs.Cycles.{Cycle}
use Rattle.datapath.proofs.Combining.{equal_tells}
use Rattle.circuit_units.proofs.MemoriesLemmas.Chosen.{pin_carries, pin_wide, number_carries}
use Rattle.circuit_units.proofs.MemoriesLemmas.Outer.{never_named}
use Rattle.circuit_units.proofs.memories.outside.is_named.Goals as goal

pub returns-then-array-ge32 : goal.returns-then-array-ge32
returns-then-array-ge32 c = λ p names begun.
    let d = circuit c.args.logic.now in
    never_named p names d c.args.array.0 c.constant.result begun (pin_wide p names d 4 5 begun refl) c.if-array-ge32.true c.constant.ensures

pub returns : goal.returns
returns c = λ p names begun.
    let d = circuit c.args.logic.now in
    let select = pin_carries p names d 4 5 (pin_wide p names d 4 5 begun refl) in
    let number = number_carries p names d 5 c.args.array.0 c.constant-2.result (omega arith, omega arith) (omega (arith, c.if-array-ge32.false)) c.constant-2.ensures in
    IfOk-weaker c.equal.result _ _ (λ a made.
    equal_tells p names d (circuit c.equal.new.self) 5 (atom.Input 4) c.constant-2.result a (λ (x : Cycle). select_of x.pins) (λ (x : Cycle). c.args.array.0) begun select number made)
    (c.equal.ensures 5 begun.sound select.fits number.fits)
