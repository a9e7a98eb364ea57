use Rattle.std.proofs.Common.{Some, refl, arith}
use Rattle.std.proofs.lemmas.Result.{IfOk-weaker}
use Rattle.rtl_logic.specs.Making.{circuit}
use Rattle.circuit_context.proofs.Halving.{two_picked}
use Rattle.circuit_context.proofs.levels.picked.Goals as goal

pub returns-in-Some : goal.returns-in-Some
returns-in-Some c = λ sound test one other.
    IfOk-weaker c.pick.result _ _
    (λ a made. two_picked (circuit c.args.logic.now) (circuit c.pick.new.self) c.args.test c.args.first c.in-Some.second a (Some c.args.first) c.args.second refl c.in-Some.is made)
    (c.pick.ensures 64 sound (omega arith, omega arith) test (other c.in-Some.second c.in-Some.is) (one c.args.first refl))
