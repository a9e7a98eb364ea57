use Rattle.std.proofs.Common.{arith, ◌≡◌, ◌<◌, length}
use Rattle.piece_making.proofs.ObjectLaws.{local_scalar, local_slot}
use borrow.Author.Tests.{true-eqb, false-eqb}
use Rattle.piece_making.proofs.objects.local.Goals as goal

pub returns-in_ok-fresh : goal.returns-in_ok-fresh
returns-in_ok-fresh c = let n = true-eqb _ _ c.if-is_empty.ensures in let e : length c.args.object.now.lengths.items ≡ 0 = omega arith in local_scalar _ _ _ _ _ e c.in_ok-fresh.ensures

pub returns-in_ok-new_slot : goal.returns-in_ok-new_slot
returns-in_ok-new_slot c = let n = false-eqb _ _ c.if-is_empty.ensures in let e : 0 < length c.args.object.now.lengths.items = omega arith in local_slot _ _ _ _ _ e c.in_ok-new_slot.ensures
