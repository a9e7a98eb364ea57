use Rattle.std.proofs.Common.{arith}
use Rattle.std.proofs.lemmas.Result.{IfOk-weaker}
use Rattle.rtl_logic.specs.Making.{circuit}
use Rattle.rtl_logic.proofs.Steps.{differs_made}
use Rattle.rtl_logic.proofs.operations.differs.Goals as goal

pub returns : goal.returns
returns c = λ n sound l r.
    let d = circuit c.args.logic.now in
    let first = c.in_ok-same.ensures n sound l r in
    IfOk-weaker c.not.result _ _ (λ a made. differs_made d (circuit c.equal.new.self) (circuit c.not.new.self) c.args.left c.args.right c.in_ok-same.same a first made)
    (c.not.ensures 1 first.sound (omega arith, omega arith) first.shows.fits)
