use Rattle.std.proofs.Common.{◌≡◌, ◌∙◌, ◌+◌, ◌-◌, sym, arith}
use Rattle.std.proofs.lemmas.Result.{IfOk-weaker}
use Rattle.rtl_logic.specs.Making.{circuit}
use Rattle.rtl_logic.proofs.Folds.{part_whole, part_wire}
use Rattle.rtl_logic.proofs.logic.Logic.part.Goals as goal

pub returns-then-width-bits : goal.returns-then-width-bits
returns-then-width-bits c = λ n sound h inside ordered most.
    let size : c.saturating_add-bits.result ≡ c.args.high + 1 - c.args.low = omega (arith, c.saturating_add-bits.ensures, c.saturating_sub.ensures, inside, ordered, most) in
    part_whole (circuit c.args.self.now) n c.args.high c.args.low c.saturating_add-bits.result c.args.of sound h inside ordered most size c.if-low-eq0.true (sym c.width.ensures ∙ c.if-width-bits.true)

pub returns : goal.returns
returns c = λ n sound h inside ordered most.
    let size : c.saturating_add-bits.result ≡ c.args.high + 1 - c.args.low = omega (arith, c.saturating_add-bits.ensures, c.saturating_sub.ensures, inside, ordered, most) in
    IfOk-weaker c.wire.result _ _
    (λ a adds. part_wire (circuit c.args.self.now) n c.args.high c.args.low c.saturating_add-bits.result c.args.of sound h inside ordered most size (circuit c.wire.new.self) a (λ k e. c.in_default.not-Some k (c.constant_of.ensures ∙ e)) adds) c.wire.ensures
