-- Statements that repeat others.
use Rattle.std.specs.Prelude.{Bool, true, false}
use Rattle.c_tree.specs.Tree as tree
use Rattle.c_tree.specs.Tree.{StmtTree}

abbrev pub is_loop : StmtTree → Bool
is_loop (tree.while_ test body at) = true
is_loop (tree.do_ body test at) = true
is_loop (tree.for_ init test step body at) = true
is_loop _ = false
