-- Rows of which a part is appended already.
use Rattle.std.proofs.Common.{Bool, true, false, List}
use Rattle.c_tree.specs.Rows.{Row, list_row, list_behind}
use Rattle.c_tree.specs.StatementRows.{listed, each_behind, inits_row, inits_behind}
use Rattle.c_tree.specs.Tree.{Trees, InitTrees}

-- what is left of a list of expressions, none of which is appended, or some
abbrev pub rest_row : Bool → Trees → Row
rest_row true trees = list_row trees
rest_row false trees = list_behind trees

-- the same of a list of anything
abbrev pub rest_listed : {A : Type 0} → (A → Row) → Bool → List A → Row
rest_listed row true xs = listed row xs
rest_listed row false xs = each_behind row xs

abbrev pub rest_inits : Bool → InitTrees → Row
rest_inits true inits = inits_row inits
rest_inits false inits = inits_behind inits
