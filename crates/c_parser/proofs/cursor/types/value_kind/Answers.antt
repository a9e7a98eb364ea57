use Rattle.std.proofs.Common.{refl}
use Rattle.c_parser.proofs.CursorLemmas.Exits.{through}
use Rattle.c_parser.proofs.CursorLemmas.TypeWords.{value_found, value_never, void_never}
use Rattle.c_parser.proofs.cursor.types.value_kind.Goals as goal

pub returns-in_err-kind-clause-absent : goal.returns-in_err-kind-clause-absent
returns-in_err-kind-clause-absent c = through _ c.in_err-kind.field-0.0 _ _ c.from_residual.ensures.1 (λ y e. e) c.in_err-kind.ensures.absent (λ n. value_never _ n)

pub returns-in-Some-clause-found : goal.returns-in-Some-clause-found
returns-in-Some-clause-found c = value_found _ _ _ _ c.in_ok-kind.ensures.found c.in-Some.is refl

pub returns-in-None-clause-absent : goal.returns-in-None-clause-absent
returns-in-None-clause-absent c = void_never _ _ _ c.in_ok-kind.ensures.found c.in-None.is
