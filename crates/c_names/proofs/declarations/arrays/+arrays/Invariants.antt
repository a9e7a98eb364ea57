use Rattle.std.proofs.Common.{◌≡◌, ◌++◌, drop}
use Rattle.c_tree.specs.View.{stmts_of}
use Rattle.c_meaning.specs.Checks.Limits.{statements_arrays}
use Rattle.c_names.proofs.declarations.arrays.+arrays.Given as goal

abbrev pub invariant-add_block_arrays-loop-stmt : goal.invariant-add_block_arrays-loop-stmt
invariant-add_block_arrays-loop-stmt l = l.places.items ++ statements_arrays (stmts_of (drop l.stmt-index l.body)) ≡ l.initial.places.items ++ statements_arrays (stmts_of l.body)
