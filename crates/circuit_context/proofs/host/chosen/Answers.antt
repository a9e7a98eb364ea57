use Rattle.std.proofs.Common.{◌≡◌, ◌-◌, ◌<◌, ◌≤◌, ◌∙◌, length, subst, sym, arith}
use Rattle.rtl_core.specs.ClockStep.{widths}
use Rattle.rtl_core.proofs.Fits.{width_is}
use Rattle.rtl_logic.specs.Making.{circuit}
use Rattle.datapath.specs.Plans.{host_arrays}
use Rattle.datapath.specs.Cycles.{Named}
use Rattle.datapath.specs.Circuits.{width}
use Rattle.datapath.proofs.Carrying.{register}
use Rattle.circuit_context.specs.Levels.{MakesLevel}
use Rattle.circuit_context.proofs.Widths.{few_bits}
use Rattle.circuit_context.proofs.host.chosen.Goals as goal

pub loop-bit-preserved : goal.loop-bit-preserved
loop-bit-preserved c = λ p names d context level.
    let e = circuit c.loop-bit.logic in
    let named = c.in_ok-named.named in
    let n = width p Named in
    let now = c.loop-bit.invariant p names d context level in
    let there = c.in_ok-named.ensures p names context in
    let first = register p names (circuit c.args.logic.now) named Named level.begun.named there in
    let wide : c.width-bit-end.result ≡ n = c.width-bit-end.ensures ∙ width_is (widths (circuit c.args.logic.now)) n named first.fits in
    let low : c.loop-bit.bit < c.width-bit-end.result = omega (arith, c.loop-bit-test.true) in
    let few = few_bits (length (host_arrays p) - 1) in
    let short : n ≤ 128 = omega (arith, few) in
    c.in_ok-level.ensures p names d n (register p names e named Named now.begun.named there) (subst (λ k. c.loop-bit.bit < k) wide low) short
    (subst (MakesLevel p names d e c.loop-bit.bit) (sym c.deref.ensures.value) now)

pub returns : goal.returns
returns c = λ p names d context level.
    let named = c.in_ok-named.named in
    let n = width p Named in
    let there = c.in_ok-named.ensures p names context in
    let first = register p names (circuit c.args.logic.now) named Named level.begun.named there in
    let wide : c.width-bit-end.result ≡ n = c.width-bit-end.ensures ∙ width_is (widths (circuit c.args.logic.now)) n named first.fits in
    let same : c.loop-bit.bit ≡ c.width-bit-end.result = omega (arith, c.loop-bit-test.false, c.loop-bit.auto.bit-end) in
    subst (λ k. MakesLevel p names d (circuit c.loop-bit.logic) k c.loop-bit.level.items) (same ∙ wide) (c.loop-bit.invariant p names d context level)
