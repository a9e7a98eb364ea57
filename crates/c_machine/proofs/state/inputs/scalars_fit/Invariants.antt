use Rattle.std.proofs.Common.{◌≡◌, map, drop}
use Rattle.c_tree.specs.View.{param_of}
use Rattle.c_meaning.specs.FittingInputs.{scalars_fit}
use Rattle.c_machine.proofs.state.inputs.scalars_fit.Given as goal

abbrev pub invariant-loop-param : goal.invariant-loop-param
invariant-loop-param l =
    scalars_fit (map param_of (drop l.param-index l.params)) l.words ≡ scalars_fit (map param_of l.params) l.scalars
