use Rattle.std.proofs.Common.{arith}
use Rattle.std.proofs.lemmas.Result.{IfOk-weaker}
use Rattle.rtl_logic.specs.Making.{circuit}
use Rattle.rtl_logic.proofs.Steps.{at_most_made}
use Rattle.rtl_logic.proofs.operations.is_at_most.Goals as goal

pub returns : goal.returns
returns c = λ sound between l r.
    let d = circuit c.args.logic.now in
    let first = c.in_ok-above.ensures sound between r l in
    IfOk-weaker c.not.result _ _ (λ a made. at_most_made d (circuit c.is_below.new.logic) (circuit c.not.new.self) c.args.signed c.args.bits c.args.left c.args.right c.in_ok-above.above a first made)
    (c.not.ensures 1 first.sound (omega arith, omega arith) first.shows.fits)
