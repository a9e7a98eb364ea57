use Rattle.c_tree.specs.View.{tree_of}
use Rattle.c_parser.proofs.CursorLemmas.Exits.{through}
use Rattle.c_parser.proofs.CursorLemmas.Readings.{then_never, apart_step, tail_found, tail_absent}
use Rattle.c_parser.proofs.statement.condition.Goals as goal

pub returns-in_err-expect-clause-absent : goal.returns-in_err-expect-clause-absent
returns-in_err-expect-clause-absent c = through _ c.in_err-expect.field-0.0 _ _ c.from_residual.ensures.1 (λ y e. e) c.in_err-expect.ensures.absent (λ n. then_never _ n)

pub returns-clause-found : goal.returns-clause-found
returns-clause-found c = tail_found tree_of _ _ _ _ (apart_step _ _ _ (λ x y here end s. tt) c.in_ok-expect.ensures.found) c.closed.ensures.found

pub returns-clause-absent : goal.returns-clause-absent
returns-clause-absent c = tail_absent _ _ _ (apart_step _ _ _ (λ x y here end s. tt) c.in_ok-expect.ensures.found) c.closed.ensures.absent
