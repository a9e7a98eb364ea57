use Rattle.rtl_core.specs.declared.design.Reg.{Reg}
use Rattle.aig_blast.proofs.Sizes.{IsSumSoFar}
use Rattle.aig_blast.proofs.weight.register_bits.Given as goal

abbrev pub invariant-loop-k : goal.invariant-loop-k
invariant-loop-k l = IsSumSoFar Reg (λ (x : Reg). x.bits) 255 l.regs l.k l.bits
