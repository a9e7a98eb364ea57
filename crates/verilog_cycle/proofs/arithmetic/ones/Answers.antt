use Rattle.verilog_cycle.proofs.Remainders.{ones_are}
use Rattle.verilog_cycle.proofs.arithmetic.ones.Goals as goal

pub returns : goal.returns
returns c = ones_are 128 c.args.bits c.requires.within
