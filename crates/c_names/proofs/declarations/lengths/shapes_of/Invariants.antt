use Rattle.std.proofs.Common.{◌≡◌, ◌++◌, drop, map}
use Rattle.c_tree.specs.View.{param_of}
use Rattle.c_meaning.specs.Checks.Calls.{param_shapes}
use Rattle.c_names.proofs.declarations.lengths.shapes_of.Given as goal

abbrev pub invariant-loop-param : goal.invariant-loop-param
invariant-loop-param l = l.shapes.items ++ param_shapes (map param_of (drop l.param-index l.params)) ≡ param_shapes (map param_of l.params)
