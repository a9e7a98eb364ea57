use Rattle.std.proofs.Common.{take}
use Rattle.unit_binding.specs.Copies.{AreTimedCopies}
use Rattle.unit_binding.proofs.copy.timed_body.Given as goal

abbrev pub invariant-loop-number : goal.invariant-loop-number
invariant-loop-number l = AreTimedCopies l.times l.unit_of 0 (take l.number l.body.ops.items) l.ops.items
