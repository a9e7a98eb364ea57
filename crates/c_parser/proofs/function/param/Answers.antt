use Rattle.c_tree.specs.View.{param_of}
use Rattle.c_parser.proofs.CursorLemmas.Exits.{through}
use Rattle.c_parser.proofs.CursorLemmas.Readings.{step_never, loose_never, loose_step, tail_found, tail_absent}
use Rattle.c_parser.proofs.FunctionForms.{param_step, param_apart, no_param_here}
use Rattle.c_parser.proofs.function.param.Goals as goal

pub returns-in_default-clause-absent : goal.returns-in_default-clause-absent
returns-in_default-clause-absent c = no_param_here _ c.in_default.ensures

pub returns-in_err-kind-clause-absent : goal.returns-in_err-kind-clause-absent
returns-in_err-kind-clause-absent c = let o = c.in-Some.ensures in
    through _ c.in_err-kind.field-0.0 _ _ c.from_residual.ensures.1 (λ y e. e) c.in_err-kind.ensures.absent
    (λ n. step_never _ _ (param_step _ _ _ o.1) (loose_never _ (param_apart _) n))

pub returns-clause-found : goal.returns-clause-found
returns-clause-found c = let o = c.in-Some.ensures in tail_found param_of _ _ _ _ (param_step _ _ _ o.1) (tail_found param_of _ _ _ _ (loose_step _ _ _ (param_apart _) c.in_ok-kind.ensures.found) c.param_behind.ensures.found)

pub returns-clause-absent : goal.returns-clause-absent
returns-clause-absent c = let o = c.in-Some.ensures in tail_absent _ _ _ (param_step _ _ _ o.1) (tail_absent _ _ _ (loose_step _ _ _ (param_apart _) c.in_ok-kind.ensures.found) c.param_behind.ensures.absent)
