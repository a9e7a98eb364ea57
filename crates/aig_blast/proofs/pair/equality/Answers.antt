use Rattle.aig_blast.proofs.Pairs.{equal_word}
use Rattle.aig_blast.proofs.pair.equality.Goals as goal

pub returns : goal.returns
returns c = equal_word _ _ c.args.xs.now c.args.ys.now _ _ c.requires.same c.in_ok-word.ensures.items c.in_ok-bit.ensures
