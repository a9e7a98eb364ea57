use Rattle.piece_making.proofs.LeavingLaws.{leaves_more}
use Rattle.piece_making.proofs.leaving.+leaving.Goals as goal

pub any_leaves-loop-i-preserved : goal.any_leaves-loop-i-preserved
any_leaves-loop-i-preserved t c = leaves_more c.args.body.now c.loop-i.i _ c.args.tail c.loop-i.leave _ _ _ _ c.loop-i-test.true c.index-body-i.is c.both-stays.ensures c.leaves-here.ensures c.either-leave.ensures c.loop-i.invariant
