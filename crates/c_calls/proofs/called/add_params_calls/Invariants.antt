use Rattle.std.proofs.Common.{◌≡◌, ◌++◌, drop, map}
use Rattle.c_tree.specs.View.{param_of}
use Rattle.c_meaning.specs.Checks.Statements.{with_params}
use Rattle.c_meaning.specs.Checks.Recursion.{params_calls}
use Rattle.c_calls.proofs.called.add_params_calls.Given as goal

abbrev pub invariant-loop-param : goal.invariant-loop-param
invariant-loop-param l = record {
  calls : l.calls.items ++ params_calls l.names (map param_of (drop l.param-index l.params)) ≡ l.initial.calls.items ++ params_calls l.initial.names (map param_of l.params);
  names : with_params (map param_of (drop l.param-index l.params)) l.names ≡ with_params (map param_of l.params) l.initial.names;
}
