use Rattle.std.proofs.Common.{◌≡◌, drop}
use Rattle.c_tree.specs.View.{stmts_of}
use Rattle.c_meaning.specs.Checks.Faults.{lesser, least}
use Rattle.c_meaning.specs.Checks.Statements.{block_faults}
use Rattle.c_names.specs.Labels.Written.{around_view}
use Rattle.c_names.specs.Declarations.Extended.{Extends}
use Rattle.c_types.proofs.statements.+statements.Given as goal

abbrev pub invariant-block-loop-stmt : goal.invariant-block-loop-stmt
invariant-block-loop-stmt l = record {
  faults : lesser l.worst (least (block_faults l.bodies (around_view l.around) l.start l.names (stmts_of (drop l.stmt-index l.body)))) ≡ least (block_faults l.bodies (around_view l.around) l.start l.initial.names (stmts_of l.body));
  names : Extends l.initial.names l.names;
}
