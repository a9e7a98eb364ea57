use Rattle.std.proofs.Common.{sym}
use Rattle.c_parser.proofs.CursorLemmas.Exits.{through}
use Rattle.c_parser.proofs.Actions.{action_found, unseparated_never, action_never}
use Rattle.c_parser.proofs.action.action.Goals as goal

pub returns-in_err-e-clause-absent : goal.returns-in_err-e-clause-absent
returns-in_err-e-clause-absent c = through _ c.in_err-e.field-0.0 _ _ c.from_residual.ensures.1 (λ y e. e) c.in_err-e.ensures.absent (λ n. action_never _ n)

pub returns-then-not-is_separator-clause-absent : goal.returns-then-not-is_separator-clause-absent
returns-then-not-is_separator-clause-absent c = unseparated_never _ _ _ (sym c.if-not-is_separator.ensures) c.in_ok-e.ensures.found

pub returns-clause-found : goal.returns-clause-found
returns-clause-found c = action_found _ _ _ _ _ c.opens_paren-grouped.ensures c.action_from.ensures (sym c.if-not-is_separator.ensures) c.in_ok-e.ensures.found
