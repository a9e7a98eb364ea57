use Rattle.std.proofs.Common.{◌∙◌}
use Rattle.ir_layout.proofs.Listing.{next_arm}
use Rattle.ir_layout.proofs.counts.behind_arms.Goals as goal

pub loop-preserved : goal.loop-preserved
loop-preserved c =
    let next = next_arm c.args.sizes.now c.loop.index c.loop.behind c.in_ok-behind.behind c.args.arms.now c.loop-test.true c.in_ok-behind.ensures c.loop.invariant.sized in
    record {
      behind = next.0 ∙ c.loop.invariant.behind;
      sized = next.1;
    }
