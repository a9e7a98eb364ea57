use Rattle.piece_making.proofs.Exits.{IfOk-weaker, IfRefused-weaker}
use Rattle.c_expand.proofs.Leading.{piece_made, piece_heavy}
use Rattle.c_expand.proofs.PieceTrees.{repeat_tree}
use Rattle.c_expand.proofs.emitting.emit_repeat.Goals as goal

pub returns-clause-made : goal.returns-clause-made
returns-clause-made c = IfOk-weaker c.emit.result _ _ (λ v h. piece_made _ _ _ _ _ (repeat_tree _ _ _ _ _ _ _ _ _ c.into_inner-test.ensures c.in_ok-end.ensures) h) c.emit.ensures.made

pub returns-clause-refused : goal.returns-clause-refused
returns-clause-refused c = IfRefused-weaker c.emit.result _ _ (λ r h. piece_heavy _ _ _ _ (repeat_tree _ _ _ _ _ _ _ _ _ c.into_inner-test.ensures c.in_ok-end.ensures) h) c.emit.ensures.refused
