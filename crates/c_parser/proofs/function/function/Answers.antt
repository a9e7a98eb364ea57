use Rattle.std.proofs.Common.{refl}
use Rattle.c_parser.proofs.CursorLemmas.Exits.{through}
use Rattle.c_parser.proofs.CursorLemmas.Readings.{then_found, then_stuck, then_never}
use Rattle.c_parser.proofs.FunctionForms.{name_found, name_never, function_whole}
use Rattle.c_parser.proofs.function.function.Goals as goal

pub returns-in_default-clause-absent : goal.returns-in_default-clause-absent
returns-in_default-clause-absent c = then_never _ (name_never _ c.in_default.ensures.1)

pub returns-in_err-expect-clause-absent : goal.returns-in_err-expect-clause-absent
returns-in_err-expect-clause-absent c =
    through _ c.in_err-expect.field-0.0 _ _ c.from_residual-in_err-expect.ensures.1 (λ y e. e) c.in_err-expect.ensures.absent
    (λ n. then_stuck _ _ _ (name_found _ _ _ c.in-Some.ensures) (then_never _ n))

pub returns-in_err-params-clause-absent : goal.returns-in_err-params-clause-absent
returns-in_err-params-clause-absent c =
    through _ c.in_err-params.field-0.0 _ _ c.from_residual-in_err-params.ensures.1 (λ y e. e) c.in_err-params.ensures.absent
    (λ n. then_stuck _ _ _ (name_found _ _ _ c.in-Some.ensures) (then_stuck _ _ _ c.in_ok-expect.ensures.found (then_never _ n)))

pub returns-in_err-body-clause-absent : goal.returns-in_err-body-clause-absent
returns-in_err-body-clause-absent c =
    through _ c.in_err-body.field-0.0 _ _ c.from_residual-in_err-body.ensures.1 (λ y e. e) c.in_err-body.ensures.absent
    (λ n. then_stuck _ _ _ (name_found _ _ _ c.in-Some.ensures) (then_stuck _ _ _ c.in_ok-expect.ensures.found (then_stuck _ _ _ c.in_ok-params.ensures.found n)))

pub returns-clause-found : goal.returns-clause-found
returns-clause-found c =
    then_found _ _ _ _ _ _ refl (name_found _ _ _ c.in-Some.ensures) (then_found _ _ _ _ _ _ refl c.in_ok-expect.ensures.found (then_found _ _ _ _ _ _
    (function_whole (record { name = c.in_ok-name.name; at = c.in-Some.at; result = c.args.kind; params = c.in_ok-params.params; body = c.in_ok-body.body }) _ c.in_ok-name.ensures) c.in_ok-params.ensures.found c.in_ok-body.ensures.found))
