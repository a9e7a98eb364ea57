use Rattle.std.proofs.Common.{◌≡◌, ◌∙◌, sym, subst, arith}
use Rattle.rtl_core.specs.ClockStep.{widths}
use Rattle.rtl_core.proofs.Fits.{width_is}
use Rattle.rtl_logic.specs.Making.{circuit}
use Rattle.rtl_logic.specs.Levels.{IsLevel}
use Rattle.rtl_logic.proofs.Leveling.{most_bits, level_first}
use Rattle.rtl_logic.proofs.tables.chosen.Goals as goal

pub loop-place-init : goal.loop-place-init
loop-place-init c = λ depth sound between fit many small.
    level_first (circuit c.args.logic.now) depth c.args.bits c.args.addr c.args.words.now c.in_ok-level.level.items sound between many small c.in_ok-level.ensures.level

pub loop-place-preserved : goal.loop-place-preserved
loop-place-preserved c = λ depth sound between fit many small.
    let d = circuit c.args.logic.now in
    let words = c.args.words.now in
    let wide : c.width-depth.result ≡ depth = c.width-depth.ensures ∙ width_is (widths d) depth c.args.addr fit in
    c.in_ok-level-2.ensures d depth c.args.bits words between fit (omega (arith, wide)) (most_bits words depth many c.constants.ensures.few)
    (subst (IsLevel d (circuit c.loop-place.logic) depth c.args.bits c.args.addr words c.loop-place.place) (sym c.deref.ensures.value) (c.loop-place.invariant depth sound between fit many small))

pub returns : goal.returns
returns c = λ depth sound between fit many small.
    let d = circuit c.args.logic.now in
    let wide : c.width-depth.result ≡ depth = c.width-depth.ensures ∙ width_is (widths d) depth c.args.addr fit in
    let all : c.loop-place.place ≡ depth = omega (arith, wide) in
    subst (λ k. IsLevel d (circuit c.loop-place.logic) depth c.args.bits c.args.addr c.args.words.now k c.loop-place.level.items) all (c.loop-place.invariant depth sound between fit many small)
