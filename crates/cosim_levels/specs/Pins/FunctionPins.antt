-- The pins of the module of a C function.
use Rattle.std.specs.Prelude.{ℕ, List, [], ◌∷◌, map, if◌then◌else◌}
use Rattle.std.specs.Option.{option_map}
use Rattle.c_tree.specs.Tree.{ParamTree, FunctionTree}
use Rattle.c_value.specs.Values.{width}
use Rattle.c_meaning.specs.Store.{lengths_in}
use Rattle.c_meaning.specs.Run.{is_array_parameter}
use Rattle.rtl_core.specs.Interface.{ArrayShape, Interface}
use Rattle.cosim_levels.specs.declared.pins.interface.HostArray.{HostArray}
use Rattle.cosim_levels.specs.declared.pins.interface.Interface.{Interface as Declared}

-- Each scalar parameter has a pin of its type's bits, each array parameter is reached by the host, and the result has its type's bits.
abbrev pub scalar_bits : List ParamTree → List ℕ
scalar_bits [] = []
scalar_bits (p ∷ ps) = if is_array_parameter p then scalar_bits ps else width p.object.kind ∷ scalar_bits ps

abbrev pub array_shape : ParamTree → ArrayShape
array_shape p = record { bits = width p.object.kind; dims = lengths_in p.object }

abbrev pub array_shapes : List ParamTree → List ArrayShape
array_shapes [] = []
array_shapes (p ∷ ps) = if is_array_parameter p then array_shape p ∷ array_shapes ps else array_shapes ps

abbrev pub interface_of : FunctionTree → Interface
interface_of f = record { scalars = scalar_bits f.params; arrays = array_shapes f.params; result = option_map width f.result }

-- an interface without where it lies in memory
abbrev pub shape_of : HostArray → ArrayShape
shape_of a = record { bits = a.bits; dims = a.lengths.items }

abbrev pub plain : Declared → Interface
plain i = record { scalars = i.scalars.items; arrays = map shape_of i.arrays.items; result = i.result }
