use Rattle.std.proofs.Common.{refl}
use Rattle.c_parser.proofs.CursorLemmas.Exits.{through}
use Rattle.c_parser.proofs.CursorLemmas.Readings.{step_found, step_never}
use Rattle.c_parser.proofs.FunctionForms.{declared_found, defined_step}
use Rattle.c_parser.proofs.function.definition.Goals as goal

pub returns-then-eat-clause-found : goal.returns-then-eat-clause-found
returns-then-eat-clause-found c = let x = c.if-eat.ensures in declared_found _ _ x.0 x.1

pub returns-in_err-body-clause-absent : goal.returns-in_err-body-clause-absent
returns-in_err-body-clause-absent c = let x = c.if-eat.ensures in
    through _ c.in_err-body.field-0.0 _ _ c.from_residual.ensures.1 (λ y e. e) c.in_err-body.ensures.absent
    (λ n. step_never _ _ (defined_step _ _ x.0 x.1) n)

pub returns-clause-found : goal.returns-clause-found
returns-clause-found c = let x = c.if-eat.ensures in step_found _ _ _ _ _ refl (defined_step _ _ x.0 x.1) c.in_ok-body.ensures.found
