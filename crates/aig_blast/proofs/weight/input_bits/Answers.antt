use Rattle.std.proofs.Common.{sym, ap, refl, ◌∙◌, arith}
use Rattle.rtl_core.specs.declared.design.Pin.{Pin}
use Rattle.aig_blast.proofs.Sizes.{sum_begins, sum_more, sum_whole, sum_few}
use Rattle.aig_blast.proofs.weight.input_bits.Goals as goal

pub loop-k-init : goal.loop-k-init
loop-k-init c = sum_begins Pin (λ (x : Pin). x.bits) 255 c.args.inputs.now

pub overflow_add-bits : goal.overflow_add-bits
overflow_add-bits c = omega (arith, c.loop-k.invariant.few, c.index-inputs-k.element_fits, c.from-bits.ensures)

pub loop-k-preserved : goal.loop-k-preserved
loop-k-preserved c =
    sum_more Pin (λ (x : Pin). x.bits) 255 c.args.inputs.now c.loop-k.k c.index-inputs-k.result c.loop-k.bits c.from-bits.result _ c.loop-k.invariant c.loop-k-test.true c.index-inputs-k.is
    (c.from-bits.ensures ∙ ap (λ (x : Pin). x.bits) (sym c.index-inputs-k.is)) (omega (arith, c.index-inputs-k.element_fits, c.from-bits.ensures)) refl

pub returns-clause-value : goal.returns-clause-value
returns-clause-value c = sum_whole Pin (λ (x : Pin). x.bits) 255 c.args.inputs.now c.loop-k.k c.loop-k.bits (omega arith) c.loop-k.invariant

pub returns-clause-few : goal.returns-clause-few
returns-clause-few c = sum_few Pin (λ (x : Pin). x.bits) 255 c.args.inputs.now c.loop-k.k c.loop-k.bits (omega arith) c.loop-k.invariant
