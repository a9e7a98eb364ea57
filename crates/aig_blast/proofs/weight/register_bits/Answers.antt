use Rattle.std.proofs.Common.{refl, arith}
use Rattle.rtl_core.specs.declared.design.Reg.{Reg}
use Rattle.aig_blast.proofs.Sizes.{sum_begins, sum_more_at, sum_whole, sum_few}
use Rattle.aig_blast.proofs.weight.register_bits.Goals as goal

pub loop-k-init : goal.loop-k-init
loop-k-init c = sum_begins Reg (λ (x : Reg). x.bits) 255 c.args.regs.now

pub overflow_add-bits : goal.overflow_add-bits
overflow_add-bits c = omega (arith, c.loop-k.invariant.few, c.loop-k-test.element_fits, c.from-bits.ensures)

pub loop-k-preserved : goal.loop-k-preserved
loop-k-preserved c =
    sum_more_at Reg (λ (x : Reg). x.bits) 255 c.args.regs.now c.loop-k.k _ c.loop-k.bits c.from-bits.result _ c.loop-k.invariant c.loop-k-test.true c.from-bits.ensures
    (omega (arith, c.loop-k-test.element_fits, c.from-bits.ensures)) refl

pub returns-clause-value : goal.returns-clause-value
returns-clause-value c = sum_whole Reg (λ (x : Reg). x.bits) 255 c.args.regs.now c.loop-k.k c.loop-k.bits (omega arith) c.loop-k.invariant

pub returns-clause-few : goal.returns-clause-few
returns-clause-few c = sum_few Reg (λ (x : Reg). x.bits) 255 c.args.regs.now c.loop-k.k c.loop-k.bits (omega arith) c.loop-k.invariant
