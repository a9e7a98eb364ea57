use Rattle.flat_programs.proofs.MemoryLemmas.Addressing.{Left}
use Rattle.flat_programs.proofs.memory.bank.address_at.Given as goal

abbrev pub invariant-loop-index : goal.invariant-loop-index
invariant-loop-index l = Left l.lengths l.subscripts l.index l.address
