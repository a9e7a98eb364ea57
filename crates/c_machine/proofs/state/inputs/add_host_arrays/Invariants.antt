use Rattle.std.proofs.Common.{◌≡◌, ◌++◌, map, drop}
use Rattle.c_tree.specs.View.{param_of}
use Rattle.c_meaning.specs.Run.{host_arrays}
use Rattle.c_machine.proofs.state.inputs.add_host_arrays.Given as goal

abbrev pub invariant-loop-param : goal.invariant-loop-param
invariant-loop-param l =
    l.objects.items ++ host_arrays (map param_of (drop l.param-index l.params)) l.rest ≡ l.initial.objects.items ++ host_arrays (map param_of l.params) l.arrays
