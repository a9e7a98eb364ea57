use Rattle.cosim_levels.proofs.PinsLemmas.AddressWords.{rows_on}
use Rattle.cosim_levels.proofs.pins.address.rows.Goals as goal

pub loop-preserved : goal.loop-preserved
loop-preserved c =
    rows_on c.loop.all.items c.add_row.new.all.items c.args.row.now c.loop.start c.args.size c.loop.counter c.args.length _ c.loop-test.true c.loop.invariant c.in_ok-add_row.ensures
