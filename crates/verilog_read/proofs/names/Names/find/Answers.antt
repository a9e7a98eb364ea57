use Rattle.std.proofs.Common.{◌∙◌}
use Rattle.verilog_read.proofs.names.Names.find.Goals as goal

pub returns : goal.returns
returns c = c.copied.ensures ∙ c.get.ensures.value
