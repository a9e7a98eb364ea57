use Rattle.std.proofs.Common.{arith}
use Rattle.rtl_core.specs.declared.design.Reg.{Reg}
use Rattle.aig_blast.proofs.Fresh.{widths_more, widths_whole}
use Rattle.aig_blast.proofs.given.register_widths.Goals as goal

pub loop-k-init : goal.loop-k-init
loop-k-init c = c.in_ok-widths.ensures.items

pub loop-k-preserved : goal.loop-k-preserved
loop-k-preserved c = widths_more Reg (λ (x : Reg). x.bits) c.args.regs.now c.loop-k.k _ _ _ c.loop-k.invariant c.loop-k-test.true c.in_ok-push.ensures.items

pub returns : goal.returns
returns c = widths_whole Reg (λ (x : Reg). x.bits) c.args.regs.now c.loop-k.k _ (omega arith) c.loop-k.invariant
