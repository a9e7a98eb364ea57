use Rattle.aig_blast.proofs.Nets.{pick_made}
use Rattle.aig_blast.proofs.net.pick.Goals as goal

pub returns : goal.returns
returns c = pick_made _ _ c.args.test.now c.args.xs.now c.args.ys.now _ c.requires.test c.requires.same c.in_ok-picked.ensures
