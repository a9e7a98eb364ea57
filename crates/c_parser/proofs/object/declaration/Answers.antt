use Rattle.std.proofs.Common.{map}
use Rattle.c_tree.specs.View.{object_of}
use Rattle.c_parser.proofs.CursorLemmas.Exits.{through}
use Rattle.c_parser.proofs.CursorLemmas.Readings.{step_never, apart_never, tail_found, tail_absent, apart_step}
use Rattle.c_parser.proofs.Declarations.{declaration_step, objects_apart}
use Rattle.c_parser.proofs.object.declaration.Goals as goal

pub returns-in_err-kind-clause-absent : goal.returns-in_err-kind-clause-absent
returns-in_err-kind-clause-absent c =
    through _ c.in_err-kind.field-0.0 _ _ c.from_residual.ensures.1 (λ y e. e) c.in_err-kind.ensures.absent (λ n. step_never _ _ (declaration_step _) (apart_never _ objects_apart n))

pub returns-clause-found : goal.returns-clause-found
returns-clause-found c =
    tail_found (λ all. map object_of all.items) _ _ _ _ (declaration_step _) (tail_found (λ all. map object_of all.items) _ _ _ _ (apart_step _ _ _ objects_apart c.in_ok-kind.ensures.found) c.objects.ensures.found)

pub returns-clause-absent : goal.returns-clause-absent
returns-clause-absent c = tail_absent _ _ _ (declaration_step _) (tail_absent _ _ _ (apart_step _ _ _ objects_apart c.in_ok-kind.ensures.found) c.objects.ensures.absent)
