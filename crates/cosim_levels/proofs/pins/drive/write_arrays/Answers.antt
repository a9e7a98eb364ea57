use Rattle.std.proofs.Common.{◌≡◌, get_or, sym, ap, ◌∙◌}
use Rattle.hls_base.specs.ArrayAddress.{addresses}
use Rattle.cosim_levels.specs.declared.pins.interface.HostArray.{HostArray}
use Rattle.cosim_levels.specs.Pins.Addresses.{in_words}
use Rattle.cosim_levels.proofs.PinsLemmas.Accesses.{array_written, all_written}
use Rattle.cosim_levels.proofs.pins.drive.write_arrays.Goals as goal

pub loop-k-preserved : goal.loop-k-preserved
loop-k-preserved c =
    let words_is : c.items.result.now ≡ get_or c.args.given.now c.loop-k.k c.items.result.now = rw c.items.ensures c.index-given-k.is in
    let at_is = c.deref-in-loop-k.ensures.value ∙ (c.in_ok-addresses.ensures ∙ (ap (λ l. in_words (addresses l)) c.deref.ensures.value ∙ ap (λ (a : HostArray). in_words (addresses a.lengths.items)) (sym c.index-arrays-k.is))) in
    array_written c.args.driver.now c.loop-k.driver c.write_array.new.driver c.loop-k.k c.min-k-end.result c.args.arrays.now c.args.given.now c.index-arrays-k.result c.items.result.now c.deref-in-loop-k.result.now
    c.requires c.min-k-end.ensures c.loop-k-test.true c.loop-k.invariant c.index-arrays-k.is words_is at_is c.write_array.ensures

pub returns : goal.returns
returns c =
    all_written c.args.driver.now c.loop-k.driver c.loop-k.k c.min-k-end.result c.args.arrays.now c.args.given.now c.min-k-end.ensures c.loop-k-test.false c.loop-k.invariant
