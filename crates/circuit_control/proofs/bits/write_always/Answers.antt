use Rattle.std.proofs.Common.{true}
use Rattle.datapath.specs.Cycles.{Cycle}
use Rattle.circuit_control.proofs.Telling.{one_tells}
use Rattle.circuit_control.proofs.bits.write_always.Goals as goal

pub returns : goal.returns
returns c = λ p names d taken context begun carries. c.write.ensures p names d (λ (x : Cycle). true) taken context begun (one_tells p names d c.constant-when.result c.constant-when.ensures) carries
