use Rattle.std.proofs.lemmas.Result.{IfOk-weaker}
use Rattle.rtl_logic.specs.Making.{circuit}
use Rattle.datapath.proofs.Combining.{and_tells}
use Rattle.circuit_control.proofs.bits.both.Goals as goal

pub returns : goal.returns
returns c = λ p names one other begun left right.
    let d = circuit c.args.logic.now in
    IfOk-weaker c.and.result _ _ (λ a made. and_tells p names d (circuit c.and.new.self) c.args.left c.args.right a one other begun left right made) (c.and.ensures begun.sound left.fits right.fits)
