-- The items of an initialiser that are there, as their trees.
use Rattle.std.specs.Prelude.{List, map, Option}
use Rattle.std.specs.Option.{option_map}
use Rattle.std.specs.Borrow.{Bor}
use Rattle.c_tree.specs.declared.expression.Expr.{Expr}
use Rattle.c_tree.specs.Tree.{Tree}
use Rattle.c_tree.specs.View.{tree_of}

abbrev pub tree_in : Option (Bor Expr) → Option Tree
tree_in item = option_map (λ e. tree_of e.now) item

abbrev pub trees_in : List (Option (Bor Expr)) → List (Option Tree)
trees_in items = map tree_in items
