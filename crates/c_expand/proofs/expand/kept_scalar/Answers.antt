use Rattle.piece_making.proofs.Exits.{through}
use Rattle.piece_making.proofs.Parts.{made_behind, heavy_at_once}
use Rattle.c_expand.proofs.Leading.{given}
use Rattle.c_expand.proofs.Homes.{first_is}
use Rattle.c_expand.proofs.expand.kept_scalar.Goals as goal

pub returns-in_err-charge-clause-refused : goal.returns-in_err-charge-clause-refused
returns-in_err-charge-clause-refused c = through _ c.in_err-charge.field-0.0 _ _ c.from_residual.ensures.1 (λ y e. e) c.in_err-charge.ensures.refused (λ r h. heavy_at_once _ _ _ _ h)

pub returns-clause-made : goal.returns-clause-made
returns-clause-made c = made_behind _ _ _ _ _ _ _ c.in_ok-charge.ensures.made (made_behind _ _ _ _ _ _ _ c.in_ok-variable.ensures (given _ _ _ (first_is c.in_ok-variable.variable _ _ c.in_ok-value.ensures)))
