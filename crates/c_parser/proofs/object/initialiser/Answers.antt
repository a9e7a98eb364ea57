use Rattle.std.proofs.Common.{refl}
use Rattle.c_parser.proofs.CursorLemmas.Exits.{through}
use Rattle.c_parser.proofs.CursorLemmas.Readings.{step_found, step_never}
use Rattle.c_parser.proofs.Initialisers.{equal_step, no_initialiser_found}
use Rattle.c_parser.proofs.object.initialiser.Goals as goal

pub returns-then-not-eat-clause-found : goal.returns-then-not-eat-clause-found
returns-then-not-eat-clause-found c = let x = c.if-not-eat.ensures in no_initialiser_found _ _ x.0 x.1

pub returns-in_err-init-clause-absent : goal.returns-in_err-init-clause-absent
returns-in_err-init-clause-absent c = let x = c.if-not-eat.ensures in
    through _ c.in_err-init.field-0.0 _ _ c.from_residual.ensures.1 (λ y e. e) c.in_err-init.ensures.absent (λ n. step_never _ _ (equal_step _ _ _ x.1) n)

pub returns-clause-found : goal.returns-clause-found
returns-clause-found c = let x = c.if-not-eat.ensures in step_found _ _ _ _ _ refl (equal_step _ _ _ x.1) c.in_ok-init.ensures.found
