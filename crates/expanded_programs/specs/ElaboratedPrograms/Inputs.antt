-- Inputs that a run of a program may be started with: the contents of its file scope, and the arguments of its top function.
use Rattle.std.specs.Prelude.{◌≡◌, ℕ, true, List, [], ◌∷◌, Option, Some, None, slice_get, if◌then◌else◌}
use Rattle.hls_base.specs.FileScope.{FileScope}
use Rattle.c_tree.specs.Tree.{ObjectTree, ParamTree, FunctionTree, ProgramTree}
use Rattle.c_meaning.specs.Checks.Limits.{file_objects}
use Rattle.c_meaning.specs.Run.{function_at}
use Rattle.c_meaning.specs.FittingInputs.{inputs_fit}

-- the objects of file scope that are not const, whose contents are given as arguments are
abbrev pub given_objects : List ObjectTree → List ParamTree
given_objects [] = []
given_objects (o ∷ os) = if o.constant then given_objects os else record { object = o; named = true } ∷ given_objects os

abbrev pub params_at : Option FunctionTree → List ParamTree
params_at None = []
params_at (Some f) = f.params

abbrev pub ProgramInputsFit : ProgramTree → ℕ → FileScope → List ℕ → List (List ℕ) → Type 0
ProgramInputsFit p top kept scalars arrays =
    (inputs_fit (given_objects (file_objects p.items)) kept.scalars kept.arrays ≡ true) × (inputs_fit (params_at (function_at (slice_get p.items top))) scalars arrays ≡ true)
