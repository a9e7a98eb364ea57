use Rattle.std.proofs.Common.{drop}
use Rattle.ir_core.specs.AddressWords.{AreShort}
use Rattle.ir_core.proofs.address.are_short.Given as goal

abbrev pub invariant-loop-length : goal.invariant-loop-length
invariant-loop-length l = AreShort (drop l.length-index l.lengths) → AreShort l.lengths
