use Rattle.std.proofs.Common.{arith}
use Rattle.verilog_cycle.proofs.edge.write_port.Goals as goal

pub write-requires : goal.write-requires
write-requires c = omega (arith, c.requires.inside, c.word.ensures)
