use Rattle.std.proofs.Common.{refl}
use Rattle.c_parser.proofs.CursorLemmas.Exits.{through}
use Rattle.c_parser.proofs.CursorLemmas.Readings.{then_found, then_never, then_stuck}
use Rattle.c_parser.proofs.statement.do_tail.Goals as goal

pub returns-in_err-expect_word-clause-absent : goal.returns-in_err-expect_word-clause-absent
returns-in_err-expect_word-clause-absent c = through _ c.in_err-expect_word.field-0.0 _ _ c.from_residual.ensures.1 (λ y e. e) c.in_err-expect_word.ensures.absent (λ n. then_never _ n)

pub returns-in_err-test-clause-absent : goal.returns-in_err-test-clause-absent
returns-in_err-test-clause-absent c = through _ c.in_err-test.field-0.0 _ _ c.from_residual-in_err-test.ensures.1 (λ y e. e) c.in_err-test.ensures.absent (λ n. then_stuck _ _ _ c.in_ok-expect_word.ensures.found (then_never _ n))

pub returns-in_err-expect-clause-absent : goal.returns-in_err-expect-clause-absent
returns-in_err-expect-clause-absent c = through _ c.in_err-expect.field-0.0 _ _ c.from_residual-in_err-expect.ensures.1 (λ y e. e) c.in_err-expect.ensures.absent (λ n. then_stuck _ _ _ c.in_ok-expect_word.ensures.found (then_stuck _ _ _ c.in_ok-test.ensures.found n))

pub returns-clause-found : goal.returns-clause-found
returns-clause-found c = then_found _ _ _ _ _ _ refl c.in_ok-expect_word.ensures.found (then_found _ _ _ _ _ _ refl c.in_ok-test.ensures.found c.in_ok-expect.ensures.found)
