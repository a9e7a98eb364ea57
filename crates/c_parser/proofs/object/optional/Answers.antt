use Rattle.std.proofs.Common.{refl}
use Rattle.c_parser.proofs.CursorLemmas.Exits.{through}
use Rattle.c_parser.proofs.CursorLemmas.Readings.{step_found, step_never}
use Rattle.c_parser.proofs.Optionals.{optional_none, optional_step}
use Rattle.c_parser.proofs.object.optional.Goals as goal

pub returns-then-eat-clause-found : goal.returns-then-eat-clause-found
returns-then-eat-clause-found c = let x = c.if-eat.ensures in optional_none _ _ _ _ x.0 c.requires.closer x.1

pub returns-in_err-e-clause-absent : goal.returns-in_err-e-clause-absent
returns-in_err-e-clause-absent c = let x = c.if-eat.ensures in
    through _ c.in_err-e.field-0.0 _ _ c.from_residual.ensures.1 (λ y e. e) c.in_err-e.ensures.absent (λ n. step_never _ _ (optional_step _ _ _ _ x.0 x.1) n)

pub returns-clause-found : goal.returns-clause-found
returns-clause-found c = let x = c.if-eat.ensures in step_found _ _ _ _ _ refl (optional_step _ _ _ _ x.0 x.1) c.in_ok-e.ensures.found
