use Rattle.std.proofs.Common.{◌≡◌, ◌++◌, map, drop}
use Rattle.c_tree.specs.View.{param_of}
use Rattle.cosim_levels.specs.Pins.FunctionPins.{scalar_bits, array_shapes, shape_of}
use Rattle.cosim_levels.proofs.pins.interface.add_params.Given as goal

abbrev pub invariant-loop-param : goal.invariant-loop-param
invariant-loop-param l =
    (l.scalars.items ++ scalar_bits (map param_of (drop l.param-index l.params)) ≡ l.initial.scalars.items ++ scalar_bits (map param_of l.params))
    × (map shape_of l.arrays.items ++ array_shapes (map param_of (drop l.param-index l.params)) ≡ map shape_of l.initial.arrays.items ++ array_shapes (map param_of l.params))
