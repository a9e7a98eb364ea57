use Rattle.std.proofs.Common.{ap, List}
use Rattle.pieces.specs.Resolved.Core.{CoreObjectTree}
use Rattle.piece_making.specs.Stocks.{stock, state_of}
use Rattle.c_expand.specs.Expansion.{locals}
use Rattle.c_expand.proofs.Leading.{made_as}
use Rattle.c_expand.proofs.Homes.{locals_turn, locals_end}
use Rattle.c_expand.proofs.calls.add_locals.Goals as goal

pub loop-object-preserved : goal.loop-object-preserved
loop-object-preserved c =
    locals_turn c.locals_of-object-items.result.now c.loop-object.object-index _ _ _ _ _ _ _ _ c.loop-object-test.true c.object-item.is c.in_ok-home.ensures c.in_ok-push.ensures.items c.loop-object.invariant

pub returns : goal.returns
returns c =
    made_as _ _ _ _ _ (ap (λ (os : List CoreObjectTree). locals os c.args.homes.now.items (state_of (stock c.args.work.now))) c.locals_of-object-items.ensures)
    (locals_end c.locals_of-object-items.result.now c.loop-object.object-index _ _ _ _ c.loop-object-test.false c.loop-object.invariant)
