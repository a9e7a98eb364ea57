use Rattle.piece_making.proofs.Exits.{through}
use Rattle.c_expand.proofs.Homes.{homes_turn, homes_heavy, homes_end}
use Rattle.c_expand.proofs.expand.file_homes.Goals as goal

pub returns-in_err-home-clause-refused : goal.returns-in_err-home-clause-refused
returns-in_err-home-clause-refused c =
    through _ c.in_err-home.field-0.0 _ _ c.from_residual-in_err-home.ensures.1 (λ y e. e) c.in_err-home.ensures.refused
    (λ r h. homes_heavy c.args.file.now c.loop-object.object-index _ _ _ c.loop-object-test.true c.object-item.is _ _ _ c.loop-object.invariant r h)

pub loop-object-preserved : goal.loop-object-preserved
loop-object-preserved c =
    homes_turn c.args.file.now c.loop-object.object-index _ _ _ c.loop-object-test.true c.object-item.is _ _ _ c.loop-object.invariant _ _ _ _
    c.in_ok-home.ensures.made c.kept_behind-kept.ensures c.in_ok-push.ensures.items

pub returns-clause-made : goal.returns-clause-made
returns-clause-made c = homes_end c.args.file.now c.loop-object.object-index _ _ _ _ _ c.loop-object-test.false c.loop-object.invariant
