use Rattle.std.proofs.Common.{◌≡◌, drop, map}
use Rattle.c_tree.specs.View.{param_of}
use Rattle.c_meaning.specs.Checks.Faults.{lesser, least}
use Rattle.c_meaning.specs.Checks.Statements.{params_faults, with_params}
use Rattle.c_types.proofs.functions.params_fault.Given as goal

abbrev pub invariant-loop-param : goal.invariant-loop-param
invariant-loop-param l = record {
  faults : lesser l.worst (least (params_faults l.bodies l.has_body l.start l.names (map param_of (drop l.param-index l.params)))) ≡ least (params_faults l.bodies l.has_body l.start l.initial.names (map param_of l.params));
  names : with_params (map param_of (drop l.param-index l.params)) l.names ≡ with_params (map param_of l.params) l.initial.names;
}
