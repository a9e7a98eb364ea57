use Rattle.verilog_cycle.proofs.Remainders.{ones_are}
use Rattle.verilog_cycle.proofs.word.ones.Goals as goal

pub returns : goal.returns
returns c = ones_are 64 c.args.bits c.requires.within
