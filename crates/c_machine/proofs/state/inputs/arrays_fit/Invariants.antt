use Rattle.std.proofs.Common.{◌≡◌, map, drop}
use Rattle.c_tree.specs.View.{param_of}
use Rattle.c_meaning.specs.FittingInputs.{arrays_fit}
use Rattle.c_machine.proofs.state.inputs.arrays_fit.Given as goal

abbrev pub invariant-loop-param : goal.invariant-loop-param
invariant-loop-param l =
    arrays_fit (map param_of (drop l.param-index l.params)) l.rest ≡ arrays_fit (map param_of l.params) l.arrays
