use Rattle.std.proofs.Common.{arith}
use Rattle.std.specs.Prelude.{◌&&◌, not}
use Rattle.std.proofs.lemmas.Result.{IfOk-weaker}
use Rattle.rtl_logic.specs.Making.{circuit}
use Rattle.datapath.specs.Cycles.{Cycle, bit}
use Rattle.datapath.specs.CircuitWires.Carrying.{MakesTelling}
use Rattle.datapath.proofs.Combining.{and_tells, not_tells}
use Rattle.circuit_control.proofs.Telling.{tells_later, made_behind}
use Rattle.circuit_control.proofs.bits.except.Goals as goal

pub returns : goal.returns
returns c = λ p names one against begun left right.
    let d = circuit c.args.logic.now in
    let e = circuit c.not.new.self in
    let f = circuit c.and.new.self in
    let turned : MakesTelling p names d e c.in_ok-turned.turned (λ (x : Cycle). not (against x)) =
    not_tells p names d e c.args.other c.in_ok-turned.turned against begun right (c.in_ok-turned.ensures 1 begun.sound (omega arith, omega arith) right.fits) in
    let first = tells_later p names d e c.args.bit one turned.appends left in
    IfOk-weaker c.and.result _ _
    (λ a made. made_behind p names d e f 1 a (λ (x : Cycle). bit (one x && not (against x))) turned.appends
    (and_tells p names e f c.args.bit c.in_ok-turned.turned a one (λ (x : Cycle). not (against x)) turned.begun first turned.carries made)) (c.and.ensures turned.begun.sound first.fits turned.carries.fits)
