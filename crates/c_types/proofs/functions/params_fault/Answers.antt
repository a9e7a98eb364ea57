use Rattle.std.proofs.Common.{refl, map}
use Rattle.c_tree.specs.View.{param_of}
use Rattle.c_meaning.specs.Checks.Statements.{param_faults, params_faults, with_param, with_params}
use Rattle.c_names.proofs.DeclarationsLemmas.Least.{least_thread, state_thread}
use Rattle.c_types.proofs.functions.params_fault.Goals as goal

pub loop-param-preserved : goal.loop-param-preserved
loop-param-preserved c = record {
  faults = least_thread (λ ns xs. params_faults c.args.bodies.now c.args.has_body c.args.start ns (map param_of xs)) (λ ns x. param_faults c.args.bodies.now c.args.has_body c.args.start ns (param_of x)) (λ ns x. with_param (param_of x) ns)
      (λ ns x xs. refl) c.args.params.now c.loop-param.param-index c.param-item.result c.loop-param.names _ _ _ _ _ c.loop-param-test.true c.param-item.is c.in_ok-here.ensures.fault c.in_ok-here.ensures.names c.lesser-worst.ensures c.loop-param.invariant.faults;
  names = state_thread (λ ns xs. with_params (map param_of xs) ns) (λ ns x. with_param (param_of x) ns) (λ ns x xs. refl)
      c.args.params.now c.loop-param.param-index c.param-item.result c.loop-param.names _ _ c.loop-param-test.true c.param-item.is c.in_ok-here.ensures.names c.loop-param.invariant.names;
}
