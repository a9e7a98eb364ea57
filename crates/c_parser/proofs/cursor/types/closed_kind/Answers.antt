use Rattle.std.proofs.Common.{refl}
use Rattle.c_parser.proofs.CursorLemmas.Exits.{through}
use Rattle.c_parser.proofs.CursorLemmas.TypeWords.{paren_apart}
use Rattle.c_parser.proofs.CursorLemmas.Readings.{apart_found, apart_stuck, apart_never}
use Rattle.c_parser.proofs.cursor.types.closed_kind.Goals as goal

pub returns-in_err-kind-clause-absent : goal.returns-in_err-kind-clause-absent
returns-in_err-kind-clause-absent c =
    through _ c.in_err-kind.field-0.0 _ _ c.from_residual.ensures.1 (λ y e. e) c.in_err-kind.ensures.absent (λ n. apart_never _ paren_apart n)

pub returns-in_err-expect-clause-absent : goal.returns-in_err-expect-clause-absent
returns-in_err-expect-clause-absent c =
    through _ c.in_err-expect.field-0.0 _ _ c.from_residual-in_err-expect.ensures.1 (λ y e. e) c.in_err-expect.ensures.absent
    (λ n. apart_stuck _ _ _ paren_apart c.in_ok-kind.ensures.found n)

pub returns-clause-found : goal.returns-clause-found
returns-clause-found c = apart_found _ _ _ _ _ _ paren_apart refl c.in_ok-kind.ensures.found c.in_ok-expect.ensures.found
