-- How many operands there are.
use Rattle.std.proofs.Common.{◌≡◌, ◌+◌, List, [], ◌∷◌, length, refl, ap, ◌∙◌, add-one}
use Rattle.c_tree.specs.declared.expression.Expr.{Expr}
use Rattle.c_tree.specs.View.{trees_of}
use Rattle.c_meaning.specs.Checks.Names.{count}

pub count_trees : (es : List Expr) → count (trees_of es) ≡ length es
count_trees [] = refl
count_trees (e ∷ es) = ap (λ n. n + 1) (count_trees es) ∙ add-one (length es)
