use Rattle.std.proofs.Common.{ap}
use Rattle.c_tree.specs.Grammar.{ends_open}
use Rattle.c_parser.proofs.CursorLemmas.Exits.{through}
use Rattle.c_parser.proofs.StatementSteps.{ended_found, ended_never}
use Rattle.c_parser.proofs.statement.continue_.Goals as goal

pub returns-in_err-expect-clause-absent : goal.returns-in_err-expect-clause-absent
returns-in_err-expect-clause-absent c = through _ c.in_err-expect.field-0.0 _ _ c.from_residual.ensures.1 (λ y e. e) c.in_err-expect.ensures.absent (λ n. ended_never _ _ n)

pub returns-clause-found : goal.returns-clause-found
returns-clause-found c = ended_found _ _ _ _ _ c.continue_.ensures c.in_ok-expect.ensures.found

pub returns-clause-fits : goal.returns-clause-fits
returns-clause-fits c = λ e. ap ends_open c.continue_.ensures
