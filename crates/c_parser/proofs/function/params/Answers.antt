use Rattle.std.proofs.Common.{ap, map}
use Rattle.c_tree.specs.View.{param_of}
use Rattle.c_parser.proofs.CursorLemmas.Exits.{through}
use Rattle.c_parser.proofs.CursorLemmas.Readings.{step_found, step_never, tail_found, tail_absent}
use Rattle.c_parser.proofs.FunctionForms.{no_params_found, void_step, params_step}
use Rattle.c_parser.proofs.function.params.Goals as goal

pub returns-then-eat-clause-found : goal.returns-then-eat-clause-found
returns-then-eat-clause-found c = let x = c.if-eat.ensures in no_params_found _ _ x.0 _ (ap (map param_of) c.new.ensures.items) x.1

pub returns-in_default-clause-found : goal.returns-in_default-clause-found
returns-in_default-clause-found c = let x = c.if-eat.ensures in let o = c.in_default.ensures in tail_found (λ all. map param_of all.items) _ _ _ _ (params_step _ _ _ x.0 x.1 o.0 o.1) c.param_list.ensures.found

pub returns-in_default-clause-absent : goal.returns-in_default-clause-absent
returns-in_default-clause-absent c = let x = c.if-eat.ensures in let o = c.in_default.ensures in tail_absent _ _ _ (params_step _ _ _ x.0 x.1 o.0 o.1) c.param_list.ensures.absent

pub returns-in_err-expect-clause-absent : goal.returns-in_err-expect-clause-absent
returns-in_err-expect-clause-absent c = let x = c.if-eat.ensures in
    through _ c.in_err-expect.field-0.0 _ _ c.from_residual.ensures.1 (λ y e. e) c.in_err-expect.ensures.absent
    (λ n. step_never _ _ (void_step _ _ _ _ x.0 c.in-Some.ensures) n)

pub returns-clause-found : goal.returns-clause-found
returns-clause-found c = let x = c.if-eat.ensures in step_found _ _ _ _ _ (ap (map param_of) c.new-2.ensures.items) (void_step _ _ _ _ x.0 c.in-Some.ensures) c.in_ok-expect.ensures.found
