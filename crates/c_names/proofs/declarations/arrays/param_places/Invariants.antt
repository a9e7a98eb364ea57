use Rattle.std.proofs.Common.{◌≡◌, ◌++◌, drop, map}
use Rattle.c_tree.specs.View.{param_of}
use Rattle.c_meaning.specs.Checks.Limits.{param_places}
use Rattle.c_names.proofs.declarations.arrays.param_places.Given as goal

abbrev pub invariant-loop-param : goal.invariant-loop-param
invariant-loop-param l = l.places.items ++ param_places (map param_of (drop l.param-index l.params)) ≡ param_places (map param_of l.params)
