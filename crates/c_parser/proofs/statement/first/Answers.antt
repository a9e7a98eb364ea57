use Rattle.std.proofs.Common.{ap, sym}
use Rattle.c_tree.specs.Tree as tree
use Rattle.c_parser.proofs.CursorLemmas.Exits.{through}
use Rattle.c_parser.proofs.CursorLemmas.Readings.{step_found, step_never}
use Rattle.c_parser.proofs.StatementSteps.{first_none, first_objects_step, first_actions_step}
use Rattle.c_parser.proofs.statement.first.Goals as goal

pub returns-then-eat-clause-found : goal.returns-then-eat-clause-found
returns-then-eat-clause-found c = let x = c.if-eat.ensures in first_none _ _ x.0 x.1

pub returns-in_err-objects-clause-absent : goal.returns-in_err-objects-clause-absent
returns-in_err-objects-clause-absent c = let x = c.if-eat.ensures in through _ c.in_err-objects.field-0.0 _ _ c.from_residual.ensures.1 (λ y e. e) c.in_err-objects.ensures.absent (λ n. step_never _ _ (first_objects_step _ _ x.0 (sym c.if-starts_kind.ensures)) n)

pub returns-then-starts_kind-clause-found : goal.returns-then-starts_kind-clause-found
returns-then-starts_kind-clause-found c = let x = c.if-eat.ensures in step_found _ _ _ _ _ (ap tree.first c.declare.ensures) (first_objects_step _ _ x.0 (sym c.if-starts_kind.ensures)) c.in_ok-objects.ensures.found

pub returns-in_err-acts-clause-absent : goal.returns-in_err-acts-clause-absent
returns-in_err-acts-clause-absent c = let x = c.if-eat.ensures in through _ c.in_err-acts.field-0.0 _ _ c.from_residual-in_err-acts.ensures.1 (λ y e. e) c.in_err-acts.ensures.absent (λ n. step_never _ _ (first_actions_step _ _ x.0 x.1 (sym c.if-starts_kind.ensures)) n)

pub returns-clause-found : goal.returns-clause-found
returns-clause-found c = let x = c.if-eat.ensures in step_found _ _ _ _ _ (ap tree.first c.act.ensures) (first_actions_step _ _ x.0 x.1 (sym c.if-starts_kind.ensures)) c.in_ok-acts.ensures.found
