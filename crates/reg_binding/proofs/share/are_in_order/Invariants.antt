use Rattle.reg_binding.specs.Pools.{AreInOrder}
use Rattle.reg_binding.proofs.share.are_in_order.Given as goal

abbrev pub invariant-loop-number : goal.invariant-loop-number
invariant-loop-number l = AreInOrder l.lives l.number
