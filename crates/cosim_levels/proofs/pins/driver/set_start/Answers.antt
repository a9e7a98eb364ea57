use Rattle.cosim_levels.proofs.PinsLemmas.HostRows.{argument_set}
use Rattle.cosim_levels.proofs.pins.driver.set_start.Goals as goal

pub loop-k-preserved : goal.loop-k-preserved
loop-k-preserved c = argument_set c.loop-k.pins c.args.arguments.now c.loop-k.k c.loop-k-test.true c.loop-k.invariant
