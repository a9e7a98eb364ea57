-- Lists of calls that are added from the last to the first.
use Rattle.std.specs.Prelude.{List, [], ◌∷◌, ◌++◌}
use Rattle.std.specs.declared.alloc.Global.{Global}
use Rattle.std.specs.declared.vec.Vec.{Vec}
use Rattle.c_meaning.specs.Checks.Recursion.{Called}

abbrev pub backwards : List (Vec Called Global) → List Called
backwards [] = []
backwards (found ∷ rest) = backwards rest ++ found.items
