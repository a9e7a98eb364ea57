use Rattle.std.proofs.Common.{◌∙◌, sym}
use Rattle.rtl_core.specs.ModuleTokens.{number_value}
use Rattle.verilog_read.proofs.Values.{depth_is, depth_is_not, log_here, log_on}
use Rattle.verilog_read.proofs.number.depth_of.Goals as goal

pub returns-then-depth-k : goal.returns-then-depth-k
returns-then-depth-k c =
    sym (c.loop-k.invariant ∙ log_here c.loop-k.k _ c.loop-k-test.true (depth_is (number_value c.args.last.now) c.number_value-depth.result c.loop-k.k c.number_value-depth.ensures c.loop-k-test.true c.if-depth-k.true))

pub loop-k-preserved : goal.loop-k-preserved
loop-k-preserved c =
    c.loop-k.invariant ∙ log_on c.loop-k.k _ c.loop-k-test.true (depth_is_not (number_value c.args.last.now) c.number_value-depth.result c.loop-k.k c.number_value-depth.ensures c.loop-k-test.true c.if-depth-k.false)
