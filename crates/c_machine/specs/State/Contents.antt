-- What an object of file scope adds to the contents that stay from one run to the next.
use Rattle.std.specs.Prelude.{ℕ, List, [], ◌++◌, ◌==◌, take, length, if◌then◌else◌}
use Rattle.hls_base.specs.FileScope.{FileScope}
use Rattle.c_token.specs.declared.ctype.CType.{CType}
use Rattle.c_tree.specs.Tree.{ObjectTree}
use Rattle.c_meaning.specs.Store.{Object}
use Rattle.c_meaning.specs.Run.{with_contents, is_scalar, filled, head_or_none}

abbrev pub no_contents : FileScope
no_contents = record { scalars = []; arrays = [] }

abbrev pub content_of : ObjectTree → Object → FileScope
content_of d o = if d.constant then no_contents else with_contents (is_scalar o) o no_contents

abbrev pub joined : FileScope → FileScope → FileScope
joined a b = record { scalars = a.scalars ++ b.scalars; arrays = a.arrays ++ b.arrays }

-- an object of these lengths, a scalar where there are none, with the first of the scalars or of the arrays
abbrev pub kept_with : CType → List ℕ → FileScope → Object
kept_with kind lengths kept = if length lengths == 0 then filled kind [] (take 1 kept.scalars) else filled kind lengths (head_or_none kept.arrays)
