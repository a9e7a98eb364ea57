use Rattle.std.proofs.Common.{◌∙◌, ◌*◌}
use Rattle.verilog_cycle.proofs.Remainders.{shorter}
use Rattle.verilog_cycle.proofs.word.product.Goals as goal

pub returns : goal.returns
returns c = c.low_bits.ensures ∙ shorter 64 (c.args.x * c.args.y) c.args.bits c.requires.within
