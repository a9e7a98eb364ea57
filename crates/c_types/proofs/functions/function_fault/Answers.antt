use Rattle.std.proofs.Common.{◌≡◌, ◌++◌, is_some, map, length, sym, ap, ◌∙◌}
use Rattle.c_tree.specs.View.{param_of, function_of, body_of}
use Rattle.c_meaning.specs.Checks.Faults.{least}
use Rattle.c_meaning.specs.Checks.Limits.{limit_faults, param_places, function_arrays}
use Rattle.c_meaning.specs.Checks.Statements.{with_params, params_faults, body_faults}
use Rattle.c_types.proofs.Accepted.{body_some}
use Rattle.c_names.proofs.DeclarationsLemmas.Least.{join}
use Rattle.c_names.proofs.DeclarationsLemmas.StatementTrees.{extends_params, extends_more, extends_by, may_forget, has_forgotten}
use Rattle.c_types.proofs.functions.function_fault.Goals as goal

pub forget-requires : goal.forget-requires
forget-requires c = may_forget _ _ _ (extends_more _ _ _ (extends_by _ _ _ c.in_ok-params.ensures.names (extends_params (map param_of c.deref-4.result.now) c.args.names.now)) c.in_ok-body.ensures.names) c.len-start.ensures

pub returns-clause-names : goal.returns-clause-names
returns-clause-names c = has_forgotten _ _ _ _ (extends_more _ _ _ (extends_by _ _ _ c.in_ok-params.ensures.names (extends_params (map param_of c.deref-4.result.now) c.args.names.now)) c.in_ok-body.ensures.names) c.len-start.ensures c.forget.ensures

pub returns-clause-fault : goal.returns-clause-fault
returns-clause-fault c =
    let bodies = c.args.bodies.now in
    let names = c.args.names.now in
    let f = c.args.f.now in
    let body = body_of f.body in
    let params = map param_of f.params.items in
    let many = limit_faults 32 34 (param_places params) in
    let wide = limit_faults 32 35 (function_arrays (function_of f)) in
    let named = params_faults bodies (is_some body) (length names) names params in
    let inside = body_faults bodies f.result (length names) (with_params params names) body in
    let one : c.limit_fault-many.result ≡ least many =
    c.limit_fault-many.ensures ∙ ap (λ ps. least (limit_faults 32 34 ps)) (c.deref-2.ensures.value ∙ c.in_ok-places.ensures ∙ ap (λ ps. param_places (map param_of ps)) c.deref.ensures.value) in
    let two : c.limit_fault-wide.result ≡ least wide =
    c.limit_fault-wide.ensures ∙ ap (λ ps. least (limit_faults 32 35 ps)) (c.deref-3.ensures.value ∙ c.in_ok-arrays.ensures) in
    let three : c.in_ok-params.params ≡ least named =
    c.in_ok-params.ensures.fault
    ∙ ap (λ h. least (params_faults bodies h c.len-start.result names (map param_of c.deref-4.result.now))) (c.is_some-has_body.ensures ∙ sym (body_some f.body))
    ∙ ap (λ s. least (params_faults bodies (is_some body) s names (map param_of c.deref-4.result.now))) c.len-start.ensures
    ∙ ap (λ ps. least (params_faults bodies (is_some body) (length names) names (map param_of ps))) c.deref-4.ensures.value in
    let four : c.in_ok-body.body ≡ least inside =
    c.in_ok-body.ensures.fault
    ∙ ap (λ s. least (body_faults bodies f.result s c.params_fault.new.names body)) c.len-start.ensures
    ∙ ap (λ ns. least (body_faults bodies f.result (length names) ns body)) (c.in_ok-params.ensures.names ∙ ap (λ ps. with_params (map param_of ps) names) c.deref-4.ensures.value) in
    join many (wide ++ (named ++ inside)) _ _ _ one (join wide (named ++ inside) _ _ _ two (join named inside _ _ _ three four c.lesser.ensures) c.lesser-2.ensures) c.lesser-3.ensures
