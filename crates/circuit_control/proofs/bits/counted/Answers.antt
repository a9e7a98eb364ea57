use Rattle.std.proofs.Common.{arith}
use Rattle.std.proofs.lemmas.Result.{IfOk-weaker}
use Rattle.rtl_logic.specs.Making.{circuit}
use Rattle.datapath.specs.Cycles.{Cycle}
use Rattle.datapath.proofs.Combining.{sum_carries}
use Rattle.circuit_control.proofs.Telling.{number_carries, one_below}
use Rattle.circuit_control.proofs.bits.counted.Goals as goal

pub returns : goal.returns
returns c = λ p names value begun between carries.
    let d = circuit c.args.logic.now in
    let one = number_carries p names d c.args.bits 1 c.constant.result between (one_below c.args.bits between) c.constant.ensures in
    IfOk-weaker c.two.result _ _ (λ a made. sum_carries p names d (circuit c.two.new.self) c.args.bits c.args.counter c.constant.result a value (λ (x : Cycle). 1) begun carries one made)
    (c.two.ensures begun.sound (between.0, omega (arith, between.1)) (carries.fits, one.fits))
