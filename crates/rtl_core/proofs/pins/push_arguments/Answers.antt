use Rattle.std.proofs.Common.{arith}
use Rattle.rtl_core.proofs.Arguments.{more_pins}
use Rattle.rtl_core.proofs.pins.push_arguments.Goals as goal

pub loop-k-preserved : goal.loop-k-preserved
loop-k-preserved c = more_pins _ _ _ _ _ _ _ _ _ (omega arith) c.loop-k.invariant c.bits_of-bits.ensures c.in_ok-argument.ensures c.in_ok-push.ensures.items
