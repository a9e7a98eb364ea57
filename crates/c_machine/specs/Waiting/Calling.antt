-- The parameters of a call.
use Rattle.std.specs.Prelude.{◌≡◌, ℕ, length, List, ◌++◌}
use Rattle.c_tree.specs.Tree.{ObjectTree, ParamTree}
use Rattle.c_meaning.specs.declared.value.Argument.{Argument}
use Rattle.c_meaning.specs.Store.{Object, Environment}
use Rattle.c_meaning.specs.Run.{parameter, parameters}

-- Behind so many objects and these that are made, the parameter is bound to this argument, and what is made is then that.
abbrev pub is_bound_one : Argument → ObjectTree → ℕ → Environment → List Object → Environment → List Object → Type 0
is_bound_one argument p first before made env made1 =
    (objects : List Object) → length objects ≡ first
    → parameter argument p before (record { objects = objects ++ made; left = 0 }) ≡ (env, record { objects = objects ++ made1; left = 0 })

-- the same of all parameters
abbrev pub is_bound : List ParamTree → List Argument → ℕ → Environment → List Object → Environment → List Object → Type 0
is_bound params given first before made env made1 =
    (objects : List Object) → length objects ≡ first
    → parameters params given before (record { objects = objects ++ made; left = 0 }) ≡ (env, record { objects = objects ++ made1; left = 0 })
