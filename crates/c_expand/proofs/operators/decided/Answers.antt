use Rattle.std.proofs.Common.{ap}
use Rattle.pieces.specs.Trees as tree
use Rattle.pieces.specs.Trees.{PureTree}
use Rattle.piece_making.proofs.Exits.{through}
use Rattle.c_expand.proofs.Leading.{piece_made, piece_heavy}
use Rattle.c_expand.proofs.Enclosing.{enclosed, enclosed_heavy}
use Rattle.c_expand.proofs.operators.decided.Goals as goal

pub returns-in_err-set-clause-refused : goal.returns-in_err-set-clause-refused
returns-in_err-set-clause-refused c =
    through _ c.in_err-set.field-0.0 _ _ c.from_residual.ensures.1 (λ y e. e) c.in_err-set.ensures.refused
    (λ r h. enclosed_heavy _ _ _ _ c.begin-outer.ensures.begun (piece_heavy _ _ _ _ (ap (λ (x : PureTree). tree.set c.args.own x) c.bit-number.ensures) h))

pub returns-clause-made : goal.returns-clause-made
returns-clause-made c =
    enclosed _ _ _ _ _ _ _ _ c.begin-outer.ensures.begun (piece_made _ _ _ _ _ (ap (λ (x : PureTree). tree.set c.args.own x) c.bit-number.ensures) c.in_ok-set.ensures.made) c.begin-outer.ensures.before c.finish.ensures.made c.finish.ensures.ended
