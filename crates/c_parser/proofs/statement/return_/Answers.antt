use Rattle.std.proofs.Common.{ap}
use Rattle.c_tree.specs.Grammar.{ends_open}
use Rattle.c_parser.proofs.CursorLemmas.Exits.{through}
use Rattle.c_parser.proofs.CursorLemmas.Readings.{step_found, step_never}
use Rattle.c_parser.proofs.StatementSteps.{returned_step}
use Rattle.c_parser.proofs.statement.return_.Goals as goal

pub returns-in_err-value-clause-absent : goal.returns-in_err-value-clause-absent
returns-in_err-value-clause-absent c = through _ c.in_err-value.field-0.0 _ _ c.from_residual.ensures.1 (λ y e. e) c.in_err-value.ensures.absent (λ n. step_never _ _ (returned_step _ _) n)

pub returns-clause-found : goal.returns-clause-found
returns-clause-found c = step_found _ _ _ _ _ c.return_.ensures (returned_step _ _) c.in_ok-value.ensures.found

pub returns-clause-fits : goal.returns-clause-fits
returns-clause-fits c = λ e. ap ends_open c.return_.ensures
