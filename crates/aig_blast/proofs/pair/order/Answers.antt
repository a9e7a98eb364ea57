use Rattle.std.specs.Prelude.{nat_lt}
use Rattle.aig_graph.specs.Words.{worded}
use Rattle.aig_blast.proofs.Pairs.{bit_word}
use Rattle.aig_blast.proofs.pair.order.Goals as goal

pub returns : goal.returns
returns c =
    let m = c.in_ok-bit.ensures in
    bit_word _ _ _ _ (λ w. nat_lt (worded w c.args.xs.now) (worded w c.args.ys.now)) c.in_ok-word.ensures.items m.extends m.sound m.shows.fits m.shows.value
