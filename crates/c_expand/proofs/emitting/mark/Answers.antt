use Rattle.piece_making.proofs.Exits.{IfOk-weaker, IfRefused-weaker}
use Rattle.c_expand.proofs.Marking.{mark_made, mark_heavy}
use Rattle.c_expand.proofs.emitting.mark.Goals as goal

pub returns-clause-made : goal.returns-clause-made
returns-clause-made c = IfOk-weaker c.mark.result _ _ (λ v h. mark_made _ _ _ _ _ c.in_ok-point.ensures h) c.mark.ensures.made

pub returns-clause-refused : goal.returns-clause-refused
returns-clause-refused c = IfRefused-weaker c.mark.result _ _ (λ r h. mark_heavy _ _ _ _ c.in_ok-point.ensures h) c.mark.ensures.refused
