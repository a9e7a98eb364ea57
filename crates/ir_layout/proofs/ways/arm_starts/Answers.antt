use Rattle.std.proofs.Common.{◌∙◌, ap, map}
use Rattle.std.proofs.lemmas.List.{map_push}
use Rattle.ir_layout.specs.Views.{number}
use Rattle.ir_layout.proofs.Listing.{next_arm}
use Rattle.ir_layout.proofs.Starting.{next_start}
use Rattle.ir_layout.proofs.ways.arm_starts.Goals as goal

pub loop-preserved : goal.loop-preserved
loop-preserved c =
    record {
      starts =
          next_start c.args.sizes.now c.loop.index c.loop.place c.in_ok-place.place c.args.arms.now (map number c.loop.starts.items) (map number c.push.new.self.items) _ c.loop-test.true c.in_ok-place.ensures c.loop.invariant.sized
          (ap (map number) c.in_ok-push.ensures.items ∙ map_push number _ _) c.loop.invariant.starts;
      sized = (next_arm c.args.sizes.now c.loop.index c.loop.place c.in_ok-place.place c.args.arms.now c.loop-test.true c.in_ok-place.ensures c.loop.invariant.sized).1;
    }
