use Rattle.verilog_cycle.proofs.Steps.{put_more}
use Rattle.verilog_cycle.proofs.run.put.Goals as goal

pub loop-k-preserved : goal.loop-k-preserved
loop-k-preserved c = put_more c.loop-k.cells c.args.cells.now c.args.words.now c.args.at c.loop-k.k c.loop-k-test.true c.requires c.loop-k.invariant
