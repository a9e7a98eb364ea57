use Rattle.rtl_core.specs.declared.design.Mem.{Mem}
use Rattle.aig_blast.proofs.Sizes.{IsSumSoFar, mem_size}
use Rattle.aig_blast.proofs.weight.memory_bits.Given as goal

abbrev pub invariant-loop-k : goal.invariant-loop-k
invariant-loop-k l = IsSumSoFar Mem mem_size 4194304 l.mems l.k l.bits
