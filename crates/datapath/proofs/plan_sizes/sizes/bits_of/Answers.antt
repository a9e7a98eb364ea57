use Rattle.std.proofs.Common.{◌+◌, sym, ap, ◌∙◌, arith}
use Rattle.datapath.proofs.Numbers.{one_bit_more, no_bit_more}
use Rattle.datapath.proofs.plan_sizes.sizes.bits_of.Goals as goal
use Rattle.datapath.proofs.plan_sizes.sizes.bits_of.Goals.{then-number-place-ne0, else-number-place-ne0}

pub loop-place-preserved : goal.loop-place-preserved
loop-place-preserved c =
    elim c.if-number-place-ne0.branch [
      | then-number-place-ne0 w ↦
          let more = one_bit_more c.args.number c.loop-place.place c.loop-place-test.true w.if-number-place-ne0.true in
          (w.bits-is ∙ ap (λ n. n + 1) c.loop-place.invariant.0 ∙ sym more, omega (arith, w.bits-is, c.loop-place.invariant.1))
      | else-number-place-ne0 w ↦
          let same = no_bit_more c.args.number c.loop-place.place c.loop-place-test.true w.if-number-place-ne0.false in
          (w.bits-is ∙ c.loop-place.invariant.0 ∙ sym same, omega (arith, w.bits-is, c.loop-place.invariant.1))
    ]
