use Rattle.std.proofs.Common.{◌≡◌, ◌++◌, drop}
use Rattle.c_tree.specs.View.{stmts_of}
use Rattle.c_meaning.specs.Checks.Recursion.{statements_calls}
use Rattle.c_names.specs.Declarations.Extended.{Extends}
use Rattle.c_calls.proofs.called.+statements.Given as goal

abbrev pub invariant-add_block_calls-loop-stmt : goal.invariant-add_block_calls-loop-stmt
invariant-add_block_calls-loop-stmt l = record {
  calls : l.calls.items ++ statements_calls l.names (stmts_of (drop l.stmt-index l.body)) ≡ l.initial.calls.items ++ statements_calls l.initial.names (stmts_of l.body);
  names : Extends l.initial.names l.names;
}
