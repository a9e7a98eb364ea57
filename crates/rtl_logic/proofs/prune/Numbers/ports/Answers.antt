use Rattle.std.proofs.Common.{arith}
use Rattle.rtl_logic.specs.Pruning.{renamed_port}
use Rattle.rtl_logic.proofs.Keeping.{over_more}
use Rattle.rtl_logic.proofs.Spreading.{no_port}
use Rattle.rtl_logic.proofs.prune.Numbers.ports.Goals as goal

pub loop-port-preserved : goal.loop-port-preserved
loop-port-preserved c = λ m n.
    over_more (renamed_port m) c.args.ports.now c.loop-port.ports c.loop-port.port-index no_port c.port.result (omega arith) (omega arith) (c.loop-port.invariant m n) (c.port.ensures m n)
