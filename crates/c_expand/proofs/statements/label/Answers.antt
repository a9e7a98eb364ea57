use Rattle.piece_making.proofs.Exits.{through, IfOk-weaker, IfRefused-weaker}
use Rattle.piece_making.proofs.Parts.{made_behind, heavy_at_once, heavy_behind}
use Rattle.c_expand.proofs.statements.label.Goals as goal

pub returns-in_err-label-clause-refused : goal.returns-in_err-label-clause-refused
returns-in_err-label-clause-refused c = through _ c.in_err-label.field-0.0 _ _ c.from_residual.ensures.1 (λ y e. e) c.in_err-label.ensures.refused (λ r h. heavy_at_once _ _ _ _ h)

pub returns-clause-made : goal.returns-clause-made
returns-clause-made c =
    IfOk-weaker c.mark.result _ _ (λ v h. made_behind _ _ _ _ _ _ _ c.in_ok-label.ensures.made h) c.mark.ensures.made

pub returns-clause-refused : goal.returns-clause-refused
returns-clause-refused c =
    IfRefused-weaker c.mark.result _ _ (λ r h. heavy_behind _ _ _ _ _ _ c.in_ok-label.ensures.made h) c.mark.ensures.refused
