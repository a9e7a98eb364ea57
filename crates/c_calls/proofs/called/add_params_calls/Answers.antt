use Rattle.std.proofs.Common.{refl, map}
use Rattle.c_tree.specs.View.{param_of}
use Rattle.c_meaning.specs.Checks.Statements.{with_param, with_params}
use Rattle.c_meaning.specs.Checks.Recursion.{lengths_calls, params_calls}
use Rattle.c_names.proofs.DeclarationsLemmas.Least.{state_thread}
use Rattle.c_calls.proofs.Calling.{grown_thread}
use Rattle.c_calls.proofs.called.add_params_calls.Goals as goal

pub loop-param-preserved : goal.loop-param-preserved
loop-param-preserved c = record {
  calls = grown_thread (λ ns xs. params_calls ns (map param_of xs)) (λ ns x. lengths_calls ns (param_of x).object.lengths) (λ ns x. with_param (param_of x) ns) (λ ns x xs. refl)
      c.args.params.now c.loop-param.param-index c.param-item.result c.loop-param.names _ _ _ _ c.loop-param-test.true c.param-item.is
      c.in_ok-add_param_calls.ensures.calls c.in_ok-add_param_calls.ensures.names c.loop-param.invariant.calls;
  names = state_thread (λ ns xs. with_params (map param_of xs) ns) (λ ns x. with_param (param_of x) ns) (λ ns x xs. refl)
      c.args.params.now c.loop-param.param-index c.param-item.result c.loop-param.names _ _ c.loop-param-test.true c.param-item.is
      c.in_ok-add_param_calls.ensures.names c.loop-param.invariant.names;
}
