use Rattle.std.proofs.Common.{◌≡◌, ◌≤◌, ◌∙◌, subst, sym, arith}
use Rattle.std.proofs.lemmas.Result.{IfOk-weaker}
use Rattle.hls_base.specs.ArrayAddress as address
use Rattle.rtl_core.specs.ClockStep.{widths}
use Rattle.rtl_core.proofs.Fits.{width_is}
use Rattle.rtl_logic.specs.Making.{circuit}
use Rattle.datapath.specs.Cycles.{Cycle}
use Rattle.datapath.specs.Reading as reading
use Rattle.circuit_context.proofs.Addresses.{some_bits, low_made}
use Rattle.circuit_context.proofs.context.Context.subscript.Goals as goal

pub returns : goal.returns
returns c = λ p names h begun.
    let d = circuit c.args.logic.now in
    let word = c.in_ok-word.ensures p names h begun in
    let n = word.bits in
    let m = c.dimension_bits.result in
    let width : c.width-bits.result ≡ n = c.width-bits.ensures ∙ width_is (widths d) n c.in_ok-word.word word.carries.fits in
    let some : 1 ≤ m = subst (λ b. 1 ≤ b) (sym c.dimension_bits.ensures.value) (some_bits c.args.size) in
    IfOk-weaker c.resized.result _ _
    (λ a made. low_made p names d (circuit c.resized.new.self) n m (address.subscript_bits c.args.size) c.in_ok-word.word a
    (λ (x : Cycle). reading.operand p x c.args.at.node.0 c.args.at.time c.args.subscript) begun word.carries c.dimension_bits.ensures.value made)
    (c.resized.ensures n begun.sound word.carries.fits (omega (arith, width, c.if-bits-eq0.false), omega (arith, width, c.if-bits-gt128.false)) (some, omega (arith, c.dimension_bits.ensures.bound)))
