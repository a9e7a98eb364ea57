use Rattle.std.proofs.lemmas.Result.{IfOk-weaker}
use Rattle.rtl_logic.specs.Making.{circuit}
use Rattle.circuit_context.proofs.Telling.{number_fits, number_held}
use Rattle.circuit_context.proofs.numbers.holds_number.Goals as goal

pub returns : goal.returns
returns c = λ p names r is begun.
    let d = circuit c.args.logic.now in
    let n = c.width-bits.result in
    let fits = number_fits p names d n c.args.value c.args.register c.in_ok-number.number r begun is c.width-bits.ensures c.in_ok-number.ensures.is c.in_ok-number.ensures.between c.in_ok-number.ensures.fits in
    IfOk-weaker c.equal.result _ _
    (λ a made. number_held p names d (circuit c.equal.new.self) n c.args.value c.args.register c.in_ok-number.number a r begun is c.width-bits.ensures c.in_ok-number.ensures.is c.in_ok-number.ensures.between
    c.in_ok-number.ensures.fits made) (c.equal.ensures n begun.sound fits.0 fits.1)
