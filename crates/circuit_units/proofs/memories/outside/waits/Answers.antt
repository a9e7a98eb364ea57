use Rattle.std.proofs.Common.{refl, arith}
use Rattle.std.specs.Prelude.{not}
use Rattle.std.proofs.lemmas.Result.{IfOk-weaker}
use Rattle.rtl_core.specs.declared.design.Atom.TheVariants as atom
use Rattle.rtl_logic.specs.Making.{circuit}
use Rattle.rtl_logic.proofs.Making.{appended}
use Rattle.datapath.specs.Cycles.{Ready, holds, starts}
use Rattle.datapath.proofs.Combining.{and_tells, not_tells, carries_on}
use Rattle.circuit_units.proofs.MemoriesLemmas.Chosen.{holds_tells, start_tells}
use Rattle.circuit_units.proofs.MemoriesLemmas.Outer.{bank_register, makes_behind}
use Rattle.circuit_units.proofs.memories.outside.waits.Goals as goal

pub returns : goal.returns
returns c = λ p names context begun.
    let d = circuit c.args.logic.now in
    let e = circuit c.not.new.self in
    let start = start_tells p names d begun in
    let against = not_tells p names d e (atom.Input 1) c.in_ok-no_start.no_start starts begun start (c.in_ok-no_start.ensures 1 begun.sound (omega arith, omega arith) start.fits) in
    let ready = carries_on p names d e 1 c.in_ok-ready.ready _ (appended d e against.appends)
    (holds_tells p names d c.in_ok-ready.ready Ready begun refl (bank_register p names c.args.of.now c.in_ok-ready.ready Ready context c.in_ok-ready.ensures)) in
    IfOk-weaker c.and.result _ _ (λ a made.
    makes_behind p names d e (circuit c.and.new.self) 1 a _ against.appends
    (and_tells p names e (circuit c.and.new.self) c.in_ok-ready.ready c.in_ok-no_start.no_start a (λ x. holds x Ready) (λ x. not (starts x)) against.begun ready against.carries made))
    (c.and.ensures against.begun.sound ready.fits against.carries.fits)
