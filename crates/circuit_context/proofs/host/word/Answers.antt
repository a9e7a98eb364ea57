use Rattle.std.proofs.Common.{arith}
use Rattle.std.proofs.lemmas.Result.{IfOk-weaker}
use Rattle.rtl_logic.specs.Making.{circuit}
use Rattle.datapath.specs.Cycles.{Word, Cycle}
use Rattle.datapath.specs.Circuits.{width}
use Rattle.datapath.proofs.Carrying.{register}
use Rattle.circuit_context.proofs.Widths.{word_width}
use Rattle.circuit_context.proofs.Choosing.{widened}
use Rattle.circuit_context.proofs.host.word.Goals as goal

pub returns : goal.returns
returns c = λ p names context begun.
    let d = circuit c.args.logic.now in
    let of = c.in_ok-register.register in
    let n = width p (Word c.args.array 0) in
    let carries = register p names d of (Word c.args.array 0) begun.named (c.in_ok-register.ensures p names context) in
    let wide = word_width p names c.args.of.now c.args.array context c.requires in
    IfOk-weaker c.resized.result _ _ (λ a made. widened p names d (circuit c.resized.new.self) n of a (λ (x : Cycle). x.regs (Word c.args.array 0)) begun wide.1 carries made)
    (c.resized.ensures n begun.sound carries.fits (wide.0, omega (arith, wide.1)) (omega arith, omega arith))
