use Rattle.std.proofs.Common.{◌-◌, ◌^◌}
use Rattle.std.proofs.lemmas.Result.{IfOk-weaker}
use Rattle.rtl_logic.specs.Making.{circuit}
use Rattle.rtl_logic.proofs.Steps.{constant_fits, filled_bit, filled_made}
use Rattle.rtl_logic.proofs.numbers.filled.Goals as goal

pub returns-then-bits-eq1 : goal.returns-then-bits-eq1
returns-then-bits-eq1 c = λ sound between t. filled_bit (circuit c.args.logic.now) c.args.bits c.args.test c.if-bits-eq1.true sound t

pub returns : goal.returns
returns c = λ sound between t.
    let d = circuit c.args.logic.now in
    let n = c.args.bits in
    let one = constant_fits d n (2 ^ 128 - 1) c.constant.result between c.constant.ensures in
    let other = constant_fits d n 0 c.constant-2.result between c.constant-2.ensures in
    IfOk-weaker c.pick.result _ _ (λ a made. filled_made d (circuit c.pick.new.self) n c.args.test c.constant.result c.constant-2.result a between.1 c.constant.ensures c.constant-2.ensures made)
    (c.pick.ensures n sound between t one other)
