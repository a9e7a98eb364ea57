use Rattle.std.proofs.Common.{◌≡◌, ◌++◌, drop}
use Rattle.c_tree.specs.View.{stmts_of}
use Rattle.c_meaning.specs.Checks.Labels.{block_labels}
use Rattle.c_names.proofs.labels.block_labels.Given as goal

abbrev pub invariant-loop-stmt : goal.invariant-loop-stmt
invariant-loop-stmt l = l.labels.items ++ block_labels l.kind (stmts_of (drop l.stmt-index l.body)) ≡ block_labels l.kind (stmts_of l.body)
