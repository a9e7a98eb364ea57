use Rattle.cosim_levels.proofs.PinsLemmas.Accesses.{write_more, write_over}
use Rattle.cosim_levels.proofs.pins.drive.write_array.Goals as goal

pub loop-k-preserved : goal.loop-k-preserved
loop-k-preserved c =
    write_more c.args.driver.now c.loop-k.driver c.write.new.self c.args.number c.loop-k.k c.min-k-end.result c.args.addresses.now c.args.words.now c.min-k-end.ensures c.loop-k-test.true
    c.loop-k.invariant c.write.ensures

pub returns : goal.returns
returns c =
    write_over c.args.driver.now c.loop-k.driver c.args.number c.loop-k.k c.min-k-end.result c.args.addresses.now c.args.words.now c.min-k-end.ensures c.loop-k-test.false c.loop-k.invariant
