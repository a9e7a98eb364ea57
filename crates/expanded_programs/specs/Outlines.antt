-- What is made for file scope and for the parameters of the top function, in their order.
use Rattle.std.specs.Prelude.{ℕ, ◌+◌, true, List, [], ◌∷◌, None, if◌then◌else◌}
use Rattle.hls_base.specs.declared.number.Kept.{Kept}
use Rattle.c_token.specs.declared.ctype.CType.{CType}
use Rattle.pieces.specs.Resolved.Core.{CoreObjectTree, FileObjectTree}
use Rattle.pieces.specs.Program.{ArrayTree}
use Rattle.piece_making.specs.declared.frame.Home.{Home}
use Rattle.piece_making.specs.declared.frame.Home.TheVariants as home
use Rattle.piece_making.specs.Making.{variable_number, array_number}
use Rattle.piece_making.specs.Objects.{array_like, file_info, first_value}
use Rattle.c_expand.specs.Expansion.{is_array, is_kept}

-- the scalars that file scope keeps, of which the first has the variable with this number
abbrev pub keeps_from : ℕ → List FileObjectTree → List Kept
keeps_from v [] = []
keeps_from v (o ∷ os) = if is_kept o then record { variable = variable_number v; value = first_value o.first } ∷ keeps_from (v + 1) os else keeps_from v os

abbrev pub kept_kinds : List FileObjectTree → List CType
kept_kinds [] = []
kept_kinds (o ∷ os) = if is_kept o then o.object.kind ∷ kept_kinds os else kept_kinds os

-- what stands for the objects of file scope, whose first kept scalar and whose first array have these numbers
abbrev pub homes_from : ℕ → ℕ → List FileObjectTree → List Home
homes_from v a [] = []
homes_from v a (o ∷ os) =
    if is_array o.object then home.Array (array_number a) ∷ homes_from v (a + 1) os
    else if o.object.constant then home.Constant (first_value o.first) ∷ homes_from v a os
    else home.Variable (variable_number v) ∷ homes_from (v + 1) a os

-- the arrays of file scope
abbrev pub files_of : List FileObjectTree → List ArrayTree
files_of [] = []
files_of (o ∷ os) = if is_array o.object then file_info o ∷ files_of os else files_of os

-- the arrays that the host reaches
abbrev pub hosts_of : List CoreObjectTree → List ArrayTree
hosts_of [] = []
hosts_of (o ∷ os) = if is_array o then array_like o None None true ∷ hosts_of os else hosts_of os

-- what stands for the parameters of the top function, whose first scalar and whose first array have these numbers
abbrev pub tops_from : ℕ → ℕ → List CoreObjectTree → List Home
tops_from v a [] = []
tops_from v a (o ∷ os) = if is_array o then home.Array (array_number a) ∷ tops_from v (a + 1) os else home.Variable (variable_number v) ∷ tops_from (v + 1) a os

abbrev pub scalar_kinds : List CoreObjectTree → List CType
scalar_kinds [] = []
scalar_kinds (o ∷ os) = if is_array o then scalar_kinds os else o.kind ∷ scalar_kinds os
