use Rattle.piece_making.proofs.Parts.{heavy_at_once, heavy_behind}
use Rattle.piece_making.proofs.Exits.{through}
use Rattle.piece_making.proofs.Making.{own_set}
use Rattle.piece_making.specs.Making.{set_own}
use Rattle.piece_making.proofs.work.Work.set_own.Goals as goal

pub returns-in_err-set-clause-refused : goal.returns-in_err-set-clause-refused
unfolding set_own
returns-in_err-set-clause-refused c = through _ c.in_err-set.field-0.0 _ _ c.from_residual-in_err-set.ensures.1 (λ y e. e) c.in_err-set.ensures.refused (λ r h. heavy_behind _ _ _ _ _ _ c.in_ok-own.ensures (heavy_at_once _ _ _ _ h))

pub returns-clause-made : goal.returns-clause-made
returns-clause-made c = own_set _ _ _ _ _ _ _ _ c.variable.ensures c.in_ok-own.ensures c.in_ok-set.ensures.made
