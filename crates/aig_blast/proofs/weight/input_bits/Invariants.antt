use Rattle.rtl_core.specs.declared.design.Pin.{Pin}
use Rattle.aig_blast.proofs.Sizes.{IsSumSoFar}
use Rattle.aig_blast.proofs.weight.input_bits.Given as goal

abbrev pub invariant-loop-k : goal.invariant-loop-k
invariant-loop-k l = IsSumSoFar Pin (λ (x : Pin). x.bits) 255 l.inputs l.k l.bits
