use Rattle.aig_blast.proofs.pair.difference.Goals as goal

pub returns : goal.returns
returns c = c.in_ok-difference.ensures.word
