use Rattle.std.proofs.Common.{◌≡◌, ◌++◌, map, drop}
use Rattle.c_tree.specs.View.{object_of}
use Rattle.pieces.specs.Resolved.CoreView.{core_stmt_of}
use Rattle.c_elaborate.specs.Scenes.{all_declared}
use Rattle.c_elaborate.specs.Statements.{declarations}
use Rattle.c_elaborate.proofs.statements.add_declarations.Given as goal

abbrev pub invariant-loop-o : goal.invariant-loop-o
invariant-loop-o l = record {
  list : map core_stmt_of l.list.items ++ declarations l.functions l.scene (map object_of (drop l.o-index l.declared)) ≡ map core_stmt_of l.initial.list.items ++ declarations l.functions l.initial.scene (map object_of l.declared);
  scene : all_declared l.scene (map object_of (drop l.o-index l.declared)) ≡ all_declared l.initial.scene (map object_of l.declared);
}
